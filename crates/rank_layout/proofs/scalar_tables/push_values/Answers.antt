use Rattle.std.proofs.Common.{◌+◌, refl}
use Rattle.rank_state.specs.declared.scalars.Scalar.TheVariants.{Value}
use Rattle.rank_layout.proofs.ScalarLists.{range_more}
use Rattle.rank_layout.proofs.scalar_tables.push_values.Goals as goal

pub loop-i-preserved : goal.loop-i-preserved
loop-i-preserved c =
    range_more (λ k. Value (c.args.from + k)) c.args.scalars.now.items c.loop-i.scalars.items c.push.new.self.items c.loop-i.i (Value (c.args.from + c.loop-i.i))
    c.loop-i.invariant refl c.in_ok-push.ensures.items
