-- What was reached so far.
use Rattle.std.specs.Prelude.{Bool, false, ◌||◌, List, [], ◌∷◌}
use Rattle.run_model.specs.Windows.{Reached, is_same}

-- it stands in the list
abbrev pub has : List Reached → Reached → Bool
has [] r = false
has (x ∷ xs) r = is_same x r || has xs r
