use Rattle.std.proofs.Common.{◌≤◌, ◌+◌, length, arith, ◌∙◌}
use Rattle.bound_program.specs.Values.{bound_of}
use Rattle.rank_layout.specs.OwnedWindows.{owned_by}
use Rattle.rank_layout.proofs.OwnedSpans.{after_more}
use Rattle.rank_layout.proofs.owned_windows.push_windows.Goals as goal

pub loop-arg-preserved : goal.loop-arg-preserved
loop-arg-preserved c =
    let more : length c.push_window.new.spans.items ≤ length c.args.spans.now.items + (c.loop-arg.arg-index + 1) =
    omega (arith, c.push_window.ensures.more, c.loop-arg.invariant.1) in (
      after_more (owned_by (bound_of c.args.dats.now.bound.now) c.args.dats.now.owners.now c.args.dats.now.meshes.now c.args.dats.now.lists.now c.args.element) c.args.args.now c.loop-arg.arg-index _
          c.args.spans.now.items c.loop-arg.spans.items c.push_window.new.spans.items c.loop-arg-test.true c.loop-arg.invariant.0 c.push_window.ensures.spans,
      more,
      c.push_window.ensures.room ∙ c.loop-arg.invariant.2,
    )
