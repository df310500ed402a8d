use Rattle.std.proofs.Common.{◌∙◌, ap, false, arith}
use Rattle.std.specs.Prelude.{◌||◌, slice_index_or}
use Rattle.std.proofs.lemmas.List.{length-map}
use Rattle.bound_program.specs.Values.{bound_of, item_of}
use Rattle.loop_plan.specs.Places.{is_run}
use Rattle.loop_plan.proofs.Running.{running_more}
use Rattle.loop_plan.proofs.sites.running_loops.Goals as goal

pub loop-item-preserved : goal.loop-item-preserved
loop-item-preserved c =
    let b = bound_of c.args.bound.now in (
      c.mark.ensures.count ∙ c.loop-item.invariant.0,
      λ s. running_more b c.loop-item.item s (slice_index_or c.loop-item.runs.items s false) (slice_index_or c.mark.new.runs.items s false)
          (omega (arith, c.loop-item-test.true, c.loop-item.auto.item-end, length-map c.args.bound.now.trace.items item_of))
          (c.loop-item.invariant.1 s) (c.mark.ensures.marks s ∙ ap (λ z. slice_index_or c.loop-item.runs.items s false || is_run z s) c.run_at.ensures),
    )
