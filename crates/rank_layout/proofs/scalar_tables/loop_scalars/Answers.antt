use Rattle.std.proofs.Common.{◌+◌, refl}
use Rattle.bound_program.specs.Values.{bound_of}
use Rattle.rank_layout.specs.Made.{AreSiteScalars}
use Rattle.rank_layout.proofs.LoopRows.{one_row}
use Rattle.rank_layout.proofs.scalar_tables.loop_scalars.Goals as goal

pub loop-site-preserved : goal.loop-site-preserved
loop-site-preserved c = (
  c.in_ok-site_scalars.ensures.slots,
  one_row (AreSiteScalars (bound_of c.args.bound.now)) c.loop-site.scalars.items c.push.new.self.items c.loop-site.site (c.loop-site.site + 1)
      c.in_ok-site_scalars.field-0 c.loop-site.invariant.1 c.in_ok-site_scalars.ensures.scalars refl c.in_ok-push.ensures.items,
)
