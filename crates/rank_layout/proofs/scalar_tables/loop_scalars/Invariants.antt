use Rattle.bound_program.specs.Values.{bound_of}
use Rattle.rank_layout.specs.Made.{AreSiteScalars}
use Rattle.rank_layout.specs.Scalars.{AreOperations, slots_before}
use Rattle.rank_layout.proofs.LoopRows.{Rows}
use Rattle.rank_layout.proofs.scalar_tables.loop_scalars.Given as goal

abbrev pub invariant-loop-site : goal.invariant-loop-site
invariant-loop-site l = AreOperations (slots_before (bound_of l.bound) l.site) l.slots.items × Rows (AreSiteScalars (bound_of l.bound)) l.scalars.items l.site
