use Rattle.std.proofs.Common.{sym, ◌∙◌, length}
use Rattle.std.proofs.lemmas.List.{length-map}
use Rattle.std.proofs.lemmas.Result.{err_from_is_err_and}
use Rattle.c_reader.specs.Kinds.{kinds}
use Rattle.c_tree.specs.View.{top_of}
use Rattle.c_reader.specs.Whole.{begins_main, top_at}
use Rattle.c_reader.proofs.LoopTurns.{until_turn, until_fails, until_ends, until_over}
use Rattle.c_reader.proofs.tops.read_tops.Goals as goal

pub returns-then-begins_main : goal.returns-then-begins_main
returns-then-begins_main c = rw length-map
    (until_ends top_of (begins_main (kinds c.args.tokens.now)) (top_at (kinds c.args.tokens.now)) (length c.args.tokens.now)
    c.loop-count.count c.loop-count.next c.loop-count.all.items _ c.loop-count.invariant c.loop-count-test.true
    (sym c.begins_main.ensures ∙ c.if-begins_main.true))

pub returns-in_err-one : goal.returns-in_err-one
returns-in_err-one c =
    let p = err_from_is_err_and c.from_residual.result c.from_residual.ensures.1 in
    rw (p.1, p.2, length-map) (until_fails top_of (begins_main (kinds c.args.tokens.now)) (top_at (kinds c.args.tokens.now))
    (length c.args.tokens.now) c.loop-count.count c.loop-count.next c.loop-count.all.items _ c.loop-count.invariant
    c.in_err-one.field-0.0 c.loop-count-test.true (sym c.begins_main.ensures ∙ c.if-begins_main.false) c.in_err-one.ensures)

pub loop-count-preserved : goal.loop-count-preserved
loop-count-preserved c =
    rw c.in_ok-push.ensures.items (until_turn top_of (begins_main (kinds c.args.tokens.now)) (top_at (kinds c.args.tokens.now))
    (length c.args.tokens.now) c.loop-count.count c.loop-count.next c.loop-count.all.items _ c.loop-count.invariant c.in_ok-one.one
    c.in_ok-one.after c.loop-count-test.true (sym c.begins_main.ensures ∙ c.if-begins_main.false) c.in_ok-one.ensures)

pub returns : goal.returns
returns c = rw length-map (until_over top_of (begins_main (kinds c.args.tokens.now)) (top_at (kinds c.args.tokens.now))
    (length c.args.tokens.now) c.loop-count.count c.loop-count.next c.loop-count.all.items _ c.loop-count.invariant c.loop-count-test.false)
