use Rattle.std.proofs.Common.{◌≡◌, ◌∙◌, sym, ap}
use Rattle.c_tree.specs.Tree as tree
use Rattle.c_tree.specs.View.{stmt_of, stmts_of}
use Rattle.c_tree.proofs.Public.{stmt_block}
use Rattle.kernel_model.specs.View.{rstmts_of}
use Rattle.name_resolution.specs.Kernels.{steps}
use Rattle.name_resolution.proofs.Steps.{fits_push, joined, joined_none, steps_turn, steps_first, steps_own, steps_next, behind_low, stmt_keeps, stmts_keep}
use Rattle.name_resolution.proofs.statements.+steps.Goals as goal
use Rattle.lemmas.proofs.Lists.{drop_end}

pub inner_step-returns-clause-own : goal.inner_step-returns-clause-own
inner_step-returns-clause-own t c =
    c.truncate.ensures.entries ∙ rw (c.len-known.ensures.len, c.in_ok-step.ensures.own) (stmt_keeps c.args.walk.now.own.entries c.args.walk.now.next (stmt_of c.args.stmt.now))

pub inner_block-returns-clause-own : goal.inner_block-returns-clause-own
inner_block-returns-clause-own t c =
    c.truncate.ensures.entries ∙ rw (c.len-known.ensures.len, c.in_ok-steps.ensures.own) (stmts_keep c.args.walk.now.own.entries c.args.walk.now.next (stmts_of c.args.body.now))

pub step-returns-in-Block-clause-step : goal.step-returns-in-Block-clause-step
step-returns-in-Block-clause-step t c =
    let e : stmt_of c.args.stmt.now ≡ tree.Block c.in-Block.at (stmts_of c.in-Block.body.items) = ap stmt_of c.in-Block.is ∙ stmt_block c.in-Block.at c.in-Block.body in
    rw (e, ← c.deref-in-Block.ensures.value) c.inner_block.ensures.step

pub step-returns-in-Block-clause-first : goal.step-returns-in-Block-clause-first
step-returns-in-Block-clause-first t c =
    let e : stmt_of c.args.stmt.now ≡ tree.Block c.in-Block.at (stmts_of c.in-Block.body.items) = ap stmt_of c.in-Block.is ∙ stmt_block c.in-Block.at c.in-Block.body in
    rw (e, ← c.deref-in-Block.ensures.value) c.inner_block.ensures.first

pub step-returns-in-Block-clause-own : goal.step-returns-in-Block-clause-own
step-returns-in-Block-clause-own t c =
    let e : stmt_of c.args.stmt.now ≡ tree.Block c.in-Block.at (stmts_of c.in-Block.body.items) = ap stmt_of c.in-Block.is ∙ stmt_block c.in-Block.at c.in-Block.body in
    rw e c.inner_block.ensures.own

pub step-returns-in-Block-clause-next : goal.step-returns-in-Block-clause-next
step-returns-in-Block-clause-next t c =
    let e : stmt_of c.args.stmt.now ≡ tree.Block c.in-Block.at (stmts_of c.in-Block.body.items) = ap stmt_of c.in-Block.is ∙ stmt_block c.in-Block.at c.in-Block.body in
    rw (e, ← c.deref-in-Block.ensures.value) c.inner_block.ensures.next

pub steps-loop-stmt-preserved : goal.steps-loop-stmt-preserved
steps-loop-stmt-preserved t c =
    let e = c.in_ok-step.ensures in
    let i = c.loop-stmt.invariant in
    record {
      steps = steps_turn c.args.places.now c.args.file.now.entries c.loop-stmt.walk.own.entries _ c.loop-stmt.walk.next _ c.args.stmts.now
          c.loop-stmt.stmt-index c.stmt-item.result c.loop-stmt.steps.items _ c.in_ok-step.step c.loop-stmt-test.true c.stmt-item.is e.step
          e.own e.next c.in_ok-push.ensures.items ∙ i.steps;
      first = steps_first c.args.file.now.entries c.loop-stmt.walk.own.entries _ c.loop-stmt.walk.next _ c.args.stmts.now
          c.loop-stmt.stmt-index c.stmt-item.result c.loop-stmt.walk.first _ c.loop-stmt-test.true c.stmt-item.is e.first e.own e.next
          ∙ i.first;
      own = steps_own c.loop-stmt.walk.own.entries _ c.loop-stmt.walk.next _ c.args.stmts.now c.loop-stmt.stmt-index c.stmt-item.result c.loop-stmt-test.true c.stmt-item.is e.own e.next ∙ i.own;
      next = steps_next c.loop-stmt.walk.next _ c.args.stmts.now c.loop-stmt.stmt-index c.stmt-item.result c.loop-stmt-test.true c.stmt-item.is e.next ∙ i.next;
      fits = fits_push c.loop-stmt.steps.items _ c.in_ok-step.step c.in_ok-push.ensures.items i.fits e.fits;
      low = rw e.next (behind_low _ _);
    }

pub steps-returns-clause-steps : goal.steps-returns-clause-steps
steps-returns-clause-steps t c =
    sym (joined_none (rstmts_of c.loop-stmt.steps.items))
    ∙ ap (λ ss. joined (rstmts_of c.loop-stmt.steps.items)
    (steps c.args.places.now c.args.file.now.entries c.loop-stmt.walk.own.entries c.loop-stmt.walk.next (stmts_of ss)))
    (sym (drop_end c.args.stmts.now c.loop-stmt.stmt-index c.loop-stmt-test.false))
    ∙ c.loop-stmt.invariant.steps
