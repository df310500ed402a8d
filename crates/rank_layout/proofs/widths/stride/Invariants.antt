use Rattle.std.proofs.Common.{◌≡◌, ◌≤◌, map, take}
use Rattle.bound_program.specs.Values.{bound_of}
use Rattle.rank_layout.specs.Tables.{most, site_width}
use Rattle.rank_layout.proofs.widths.stride.Given as goal

abbrev pub invariant-loop-site : goal.invariant-loop-site
invariant-loop-site l = (l.widest ≡ most (map (site_width (bound_of l.bound)) (take l.site-index (bound_of l.bound).sites))) × (l.widest ≤ 1024)
