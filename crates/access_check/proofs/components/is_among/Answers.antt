use Rattle.std.proofs.Common.{ap, ℕ, nat_eq, slice_index_or}
use Rattle.std.proofs.lemmas.Nat.Bits.{shr_and_one}
use Rattle.access_check.specs.States.{has_component}
use Rattle.access_check.proofs.components.is_among.Goals as goal

pub returns : goal.returns
unfolding has_component
returns c = ap (λ (z : ℕ). nat_eq z 1) (shr_and_one (slice_index_or c.args.components.now.words c.args.arg 0) c.args.index)
