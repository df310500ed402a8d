use Rattle.bound_program.specs.Values.{bound_of}
use Rattle.rank_layout.proofs.SiteScalars.{SoFar}
use Rattle.rank_layout.proofs.scalar_tables.site_scalars.Given as goal

abbrev pub invariant-loop-i : goal.invariant-loop-i
invariant-loop-i l = SoFar (bound_of l.bound) l.site l.i l.slots.items l.scalars.items
