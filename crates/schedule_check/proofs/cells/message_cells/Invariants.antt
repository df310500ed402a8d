use Rattle.std.proofs.Common.{◌≡◌, ◌+◌, drop}
use Rattle.schedule_check.specs.Mail.{cells_between}
use Rattle.schedule_check.proofs.cells.message_cells.Given as goal

abbrev pub invariant-loop-dat : goal.invariant-loop-dat
invariant-loop-dat l = l.total + cells_between l.mesh l.ranks (drop l.dat-index l.exchange) l.from l.to ≡ cells_between l.mesh l.ranks l.exchange l.from l.to
