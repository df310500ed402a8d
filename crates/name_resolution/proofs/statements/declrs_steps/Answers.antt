use Rattle.std.proofs.Common.{◌∙◌, sym, ap, map}
use Rattle.c_tree.specs.View.{declr_of}
use Rattle.kernel_model.specs.View.{rstmts_of}
use Rattle.name_resolution.specs.Kernels.{declrs_steps}
use Rattle.name_resolution.proofs.Steps.{fits_push, joined, joined_none, declrs_turn, declrs_first, declrs_own, declrs_next, behind_low}
use Rattle.name_resolution.proofs.statements.declrs_steps.Goals as goal
use Rattle.lemmas.proofs.Lists.{drop_end}

pub loop-declr-preserved : goal.loop-declr-preserved
loop-declr-preserved c =
    let e = c.in_ok-step.ensures in
    let i = c.loop-declr.invariant in
    record {
      steps = declrs_turn c.args.places.now c.args.file.now.entries c.loop-declr.walk.own.entries _ c.loop-declr.walk.next _
          c.args.declrs.now c.loop-declr.declr-index c.declr-item.result c.loop-declr.steps.items _ c.in_ok-step.step c.loop-declr-test.true
          c.declr-item.is e.step e.own e.next c.in_ok-push.ensures.items ∙ i.steps;
      first = declrs_first c.args.file.now.entries c.loop-declr.walk.own.entries _ c.loop-declr.walk.next _ c.args.declrs.now
          c.loop-declr.declr-index c.declr-item.result c.loop-declr.walk.first _ c.loop-declr-test.true c.declr-item.is e.first e.own e.next
          ∙ i.first;
      own = declrs_own c.loop-declr.walk.own.entries _ c.loop-declr.walk.next _ c.args.declrs.now c.loop-declr.declr-index
          c.declr-item.result c.loop-declr-test.true c.declr-item.is e.own e.next ∙ i.own;
      next = declrs_next c.loop-declr.walk.next _ c.args.declrs.now c.loop-declr.declr-index c.declr-item.result c.loop-declr-test.true c.declr-item.is e.next ∙ i.next;
      fits = fits_push c.loop-declr.steps.items _ c.in_ok-step.step c.in_ok-push.ensures.items i.fits e.fits;
      low = rw e.next (behind_low _ _);
    }

pub returns-clause-steps : goal.returns-clause-steps
returns-clause-steps c =
    sym (joined_none (rstmts_of c.loop-declr.steps.items))
    ∙ ap (λ ds. joined (rstmts_of c.loop-declr.steps.items)
    (declrs_steps c.args.places.now c.args.file.now.entries c.loop-declr.walk.own.entries c.loop-declr.walk.next (map declr_of ds)))
    (sym (drop_end c.args.declrs.now c.loop-declr.declr-index c.loop-declr-test.false))
    ∙ c.loop-declr.invariant.steps
