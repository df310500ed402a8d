use Rattle.std.proofs.Common.{◌≡◌, ◌+◌, drop}
use Rattle.plan_counts.specs.Imports.{cells_by}
use Rattle.plan_counts.proofs.messages.message_cells.Given as goal

-- with those of the dats that are left it is the whole
abbrev pub invariant-loop-dat : goal.invariant-loop-dat
invariant-loop-dat l = l.total + cells_by l.mesh l.imports (drop l.dat-index l.exchange) l.from l.to ≡ cells_by l.mesh l.imports l.exchange l.from l.to
