-- Output grows step by step.
use Rattle.std.proofs.Common.{◌≡◌, ℕ, List, [], ◌++◌, sym, ap, ◌∙◌, append_assoc}
use Rattle.std.proofs.lemmas.List.{append-nil}
use Rattle.run_model.specs.Grows.{Grows}

pub grows_on : (a b c : List ℕ) → Grows a b → Grows b c → Grows a c
grows_on a b c f g = (f.0 ++ g.0, g.1 ∙ ap (λ z. z ++ g.0) f.1 ∙ append_assoc a f.0 g.0)

pub grows_not : (a b : List ℕ) → b ≡ a → Grows a b
grows_not a b h = ([], h ∙ sym (append-nil a))
