use Rattle.std.proofs.Common.{◌≡◌, map, take}
use Rattle.cell_numbers.specs.Marks.{own_or_other}
use Rattle.cell_numbers.proofs.owned.own_parts.Given as goal

abbrev pub invariant-loop-owner : goal.invariant-loop-owner
invariant-loop-owner l = l.numbers.items ≡ map (own_or_other l.rank) (take l.owner-index l.owners)
