use Rattle.std.proofs.Common.{◌≡◌, map, take}
use Rattle.rank_layout.specs.Made.{writes_by}
use Rattle.rank_layout.proofs.write_table.writes_of.Given as goal

abbrev pub invariant-loop-arg : goal.invariant-loop-arg
invariant-loop-arg l = l.writes.items ≡ map (writes_by l.args) (take l.arg-index l.args)
