use Rattle.std.proofs.Common.{◌-◌, sym, ◌∙◌}
use Rattle.std.proofs.lemmas.Result.{err_from_is_err_and}
use Rattle.c_tree.specs.View.{expr_of}
use Rattle.c_reader.specs.Descent.{read as read_at}
use Rattle.c_reader.specs.Kinds.{kinds}
use Rattle.c_reader.proofs.Complete.{chain_stops}
use Rattle.c_reader.proofs.Turns.{turn, turn_fails, last_turn}
use Rattle.c_reader.proofs.expressions.+expressions.Goals as goal

pub read_chain-returns-in-None : goal.read_chain-returns-in-None
read_chain-returns-in-None t c =
    c.loop-count.invariant ∙ chain_stops _ _ (128 - c.loop-count.count) c.args.min (expr_of c.loop-count.left) c.loop-count.next (sym c.operator.ensures.is ∙ c.in-None.is)

pub read_chain-returns-in_err-right : goal.read_chain-returns-in_err-right
read_chain-returns-in_err-right t c =
    let p = err_from_is_err_and c.from_residual.result c.from_residual.ensures.1 in
    rw (p.1, p.2, c.loop-count.invariant)
    (turn_fails _ (read_at (kinds c.args.tokens.now) c.args.depth) c.loop-count.count c.args.min (expr_of c.loop-count.left)
    c.loop-count.next c.in-Some.op c.in_err-right.field-0.0 c.loop-count-test.true (sym c.operator.ensures.is ∙ c.in-Some.is)
    (rw c.level.ensures at c.in_err-right.ensures))

pub read_chain-loop-count-preserved : goal.read_chain-loop-count-preserved
read_chain-loop-count-preserved t c =
    rw (c.in_ok-new.ensures.ok, c.in_ok-new-2.ensures.ok)
    (c.loop-count.invariant ∙ turn _ (read_at (kinds c.args.tokens.now) c.args.depth) c.loop-count.count c.args.min
    (expr_of c.loop-count.left) c.loop-count.next c.in-Some.op (expr_of c.in_ok-right.right, c.in_ok-right.after) c.loop-count-test.true
    (sym c.operator.ensures.is ∙ c.in-Some.is) (rw c.level.ensures at c.in_ok-right.ensures))

pub read_chain-returns-in-Some-operator : goal.read_chain-returns-in-Some-operator
read_chain-returns-in-Some-operator t c =
    c.loop-count.invariant ∙ last_turn _ (read_at (kinds c.args.tokens.now) c.args.depth) c.loop-count.count c.args.min
    (expr_of c.loop-count.left) c.loop-count.next c.in-Some-operator.field-0 c.loop-count-test.false
    (sym c.operator-2.ensures.is ∙ c.in-Some-operator.is)

pub read_chain-returns-in-None-operator : goal.read_chain-returns-in-None-operator
read_chain-returns-in-None-operator t c =
    c.loop-count.invariant ∙ chain_stops _ _ (128 - c.loop-count.count) c.args.min (expr_of c.loop-count.left) c.loop-count.next (sym c.operator-2.ensures.is ∙ c.in-None-operator.is)
