use Rattle.std.proofs.Common.{◌≡◌, drop}
use Rattle.rank_layout.specs.Scalars.{names}
use Rattle.rank_layout.proofs.scalar_tables.is_named.Given as goal

abbrev pub invariant-loop-arg : goal.invariant-loop-arg
invariant-loop-arg l = names l.var (drop l.arg-index l.args) ≡ names l.var l.args
