use Rattle.std.proofs.Common.{◌≡◌, drop}
use Rattle.rank_layout.specs.OwnedWindows.{begins_among}
use Rattle.rank_layout.proofs.owned_windows.begins_among.Given as goal

abbrev pub invariant-loop-other : goal.invariant-loop-other
invariant-loop-other l = begins_among l.span l.spans ≡ begins_among l.span (drop l.other-index l.spans)
