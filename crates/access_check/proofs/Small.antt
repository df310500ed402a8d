-- The modes of a parallel loop are few and small.
use Rattle.std.proofs.Common.{◌≤◌, ℕ, zero, suc, List, [], ◌∷◌, map, lit≤}
use Rattle.std.specs.List.{All}
use Rattle.std.proofs.lemmas.List.Elements.{All-head, All-tail, All-nil, All-cons}
use Rattle.kernel_model.specs.Obeys.{mode_at}
use Rattle.access_check.specs.declared.modes.Mode.{Mode}
use Rattle.access_check.specs.Modes.{model_of}

abbrev IsSmall : Mode → Type 0
IsSmall m = m.dim ≤ 64

-- each mode of a list is small, also one that is not there
pub small_from : (ms : List Mode) → All (λ m. m.dim ≤ 64) ms → (a : ℕ) → (mode_at (map model_of ms) a).dim ≤ 64
small_from [] h a = lit≤ tt
small_from (m ∷ ms) h zero = All-head IsSmall m ms h
small_from (m ∷ ms) h (suc a) = small_from ms (All-tail IsSmall m ms h) a

pub small_to : (ms : List Mode) → ((a : ℕ) → (mode_at (map model_of ms) a).dim ≤ 64) → All (λ m. m.dim ≤ 64) ms
small_to [] f = All-nil IsSmall
small_to (m ∷ ms) f = All-cons IsSmall m ms (f 0) (small_to ms (λ a. f (suc a)))
