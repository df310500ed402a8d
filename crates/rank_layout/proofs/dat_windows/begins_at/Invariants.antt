use Rattle.std.proofs.Common.{◌≡◌, drop}
use Rattle.rank_layout.specs.DatWindows.{begins_at}
use Rattle.rank_layout.proofs.dat_windows.begins_at.Given as goal

abbrev pub invariant-loop-span : goal.invariant-loop-span
invariant-loop-span l = begins_at l.at l.spans ≡ begins_at l.at (drop l.span-index l.spans)
