use Rattle.std.proofs.Common.{sym, ◌∙◌, length}
use Rattle.std.proofs.lemmas.List.{length-map}
use Rattle.std.proofs.lemmas.Result.{err_from_is_err_and}
use Rattle.c_reader.specs.Kinds.{kinds}
use Rattle.c_tree.specs.View.{expr_of}
use Rattle.c_reader.specs.Descent.{read}
use Rattle.c_reader.proofs.LoopTurns.{commas_turn, commas_fails, commas_ends, commas_over}
use Rattle.c_reader.proofs.calls.read_values.Goals as goal

pub returns-then-not-is_sign : goal.returns-then-not-is_sign
returns-then-not-is_sign c = rw length-map
    (commas_ends expr_of (kinds c.args.tokens.now) (read (kinds c.args.tokens.now) c.args.depth 0) (length c.args.tokens.now)
    c.loop-count.count c.loop-count.next c.loop-count.all.items _ c.loop-count.invariant c.loop-count-test.true
    (sym c.is_sign.ensures.is ∙ c.if-not-is_sign.true))

pub returns-in_err-one : goal.returns-in_err-one
returns-in_err-one c =
    let p = err_from_is_err_and c.from_residual.result c.from_residual.ensures.1 in
    rw (p.1, p.2, length-map) (commas_fails expr_of (kinds c.args.tokens.now) (read (kinds c.args.tokens.now) c.args.depth 0)
    (length c.args.tokens.now) c.loop-count.count c.loop-count.next c.loop-count.all.items _ c.loop-count.invariant
    c.in_err-one.field-0.0 c.loop-count-test.true (sym c.is_sign.ensures.is ∙ c.if-not-is_sign.false) c.in_err-one.ensures)

pub loop-count-preserved : goal.loop-count-preserved
loop-count-preserved c =
    rw c.in_ok-push.ensures.items (commas_turn expr_of (kinds c.args.tokens.now) (read (kinds c.args.tokens.now) c.args.depth 0)
    (length c.args.tokens.now) c.loop-count.count c.loop-count.next c.loop-count.all.items _ c.loop-count.invariant c.in_ok-one.one
    c.in_ok-one.after c.loop-count-test.true (sym c.is_sign.ensures.is ∙ c.if-not-is_sign.false) c.in_ok-one.ensures)

pub returns : goal.returns
returns c = rw length-map (commas_over expr_of (kinds c.args.tokens.now) (read (kinds c.args.tokens.now) c.args.depth 0)
    (length c.args.tokens.now) c.loop-count.count c.loop-count.next c.loop-count.all.items _ c.loop-count.invariant c.loop-count-test.false)
