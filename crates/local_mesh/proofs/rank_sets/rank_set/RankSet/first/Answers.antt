use Rattle.std.proofs.Common.{◌<◌, ℕ, rules, arith, eqb, ap, ◌∙◌}
use Rattle.std.specs.Int.{bit_at}
use Rattle.local_mesh.specs.RankSet.{has}
use Rattle.local_mesh.proofs.rank_sets.Bits.{first_bit}
use Rattle.local_mesh.proofs.rank_sets.rank_set.RankSet.first.Goals as goal
use Rattle.lemmas.proofs.Numbers.{zero_bit}

pub returns-then-self-eq0-clause-none : goal.returns-then-self-eq0-clause-none
unfolding has
returns-then-self-eq0-clause-none c = λ (k : ℕ) (l : k < 64). ap (λ (z : ℕ). eqb (bit_at z k) 1) c.if-self-eq0.true ∙ zero_bit k

pub returns-else-self-eq0-clause-some : goal.returns-else-self-eq0-clause-some
unfolding has
returns-else-self-eq0-clause-some c = first_bit c.args.self.bits (omega arith) (search rules)
