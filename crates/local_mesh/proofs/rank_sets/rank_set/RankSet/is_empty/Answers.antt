use Rattle.std.proofs.Common.{◌≡◌, ◌<◌, true, ℕ, rules, eqb, ap, ◌∙◌}
use Rattle.std.specs.Int.{bit_at}
use Rattle.std.proofs.lemmas.Bool.{eqb-true, eq-eqb}
use Rattle.local_mesh.specs.RankSet.{has}
use Rattle.local_mesh.proofs.rank_sets.Bits.{none_zero}
use Rattle.local_mesh.proofs.rank_sets.rank_set.RankSet.is_empty.Goals as goal
use Rattle.lemmas.proofs.Numbers.{zero_bit}

pub returns : goal.returns
unfolding has
returns c = (
  λ (h : eqb c.args.self.bits 0 ≡ true) (k : ℕ) (l : k < 64). ap (λ (z : ℕ). eqb (bit_at z k) 1) (eqb-true c.args.self.bits 0 h) ∙ zero_bit k,
  λ h. eq-eqb c.args.self.bits 0 (none_zero c.args.self.bits (search rules) h),
)
