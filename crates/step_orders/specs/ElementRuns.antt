-- A rank's elements in runs, as the standard order begins and ends them.
use Rattle.std.specs.Prelude.{◌==◌, ℕ, zero, suc, cond, List, [], ◌∷◌, ◌++◌}
use Rattle.schedule_steps.specs.Outline.{Outline}
use Rattle.schedule_steps.specs.Drawn.{numbers}
use Rattle.schedule_steps.specs.Standard.{above, in_group, group_of, blocks}

-- f 0, f 1, .. and f (n - 1), one after another
abbrev pub joined : (ℕ → List (List ℕ)) → ℕ → List (List ℕ)
joined f zero = []
joined f (suc n) = joined f n ++ f n

-- the list, unless it is empty
abbrev pub unless_empty : List ℕ → List (List ℕ)
unless_empty [] = []
unless_empty (x ∷ xs) = (x ∷ xs) ∷ []

module _ (o : Outline) (g k r : ℕ) where
  -- up to g elements of one block and colour
  abbrev pub run_of : ℕ → ℕ → ℕ → List (List ℕ)
  run_of b c j = unless_empty (numbers (in_group o g k r b c j) (o.count k r))

  -- the runs of a block by colour
  abbrev pub block_runs : ℕ → List (List ℕ)
  block_runs b = joined (λ c. joined (run_of b c) (above (group_of o g k r) (o.count k r))) (above (o.colour k r) (o.count k r))

  -- A rank's elements by block colour, block, colour and number, in runs of up to g elements of one block and colour.
  abbrev pub runs_of : List (List ℕ)
  runs_of =
      joined
      (λ h. joined (λ b. cond (o.block_colour k r b == h) (block_runs b) []) (blocks o k r))
      (above (o.block_colour k r) (blocks o k r))
