use Rattle.std.proofs.Common.{ℕ, [], ◌∷◌}
use Rattle.bound_program.specs.Values.{BoundValue}
use Rattle.checkpoint.specs.Reading.{Values}
use Rattle.checkpoint.specs.Judged.{PushesAmong}
use Rattle.checkpoint.proofs.state_texts.Below.{below}
use Rattle.checkpoint.proofs.state_texts.dats.take_elements.Given as goal

abbrev pub invariant-loop-element : goal.invariant-loop-element
invariant-loop-element l = (b : BoundValue) (k : ℕ) → PushesAmong b k (below (λ e. Values l.dim ∷ []) l._element) l.fn.lines l.lines l.fn.values.items l.values.items
