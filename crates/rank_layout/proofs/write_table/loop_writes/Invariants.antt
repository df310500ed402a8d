use Rattle.std.proofs.Common.{◌≡◌, map}
use Rattle.bound_program.specs.Values.{bound_of}
use Rattle.bound_program.specs.Fits.{site_at}
use Rattle.rank_layout.specs.Made.{writes_by}
use Rattle.rank_layout.proofs.LoopRows.{Rows}
use Rattle.rank_layout.proofs.write_table.loop_writes.Given as goal

abbrev pub invariant-loop-site : goal.invariant-loop-site
invariant-loop-site l =
    Rows (λ s xs. xs ≡ map (writes_by (site_at (bound_of l.bound) s).args) (site_at (bound_of l.bound) s).args) l.writes.items l.site-index
