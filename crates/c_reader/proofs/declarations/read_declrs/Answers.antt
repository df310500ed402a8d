use Rattle.std.proofs.Common.{sym, ◌∙◌, length}
use Rattle.std.proofs.lemmas.List.{length-map}
use Rattle.std.proofs.lemmas.Result.{err_from_is_err_and}
use Rattle.c_reader.specs.Kinds.{kinds}
use Rattle.c_tree.specs.declared.lexer.tokens.Sign.TheVariants as s
use Rattle.c_tree.specs.View.{declr_of}
use Rattle.c_reader.specs.Declarations.{declr_at}
use Rattle.c_reader.proofs.LoopTurns.{separated_turn, separated_fails, separated_ends, separated_stops, separated_over}
use Rattle.c_reader.proofs.declarations.read_declrs.Goals as goal

pub returns-in_err-one : goal.returns-in_err-one
returns-in_err-one c =
    let p = err_from_is_err_and c.from_residual.result c.from_residual.ensures.1 in
    rw (p.1, p.2, length-map) (separated_fails declr_of (kinds c.args.tokens.now)
    (declr_at (kinds c.args.tokens.now) c.args.depth c.args.is_const) s.Semicolon (length c.args.tokens.now) c.loop-count.count
    c.loop-count.next c.loop-count.all.items _ c.loop-count.invariant c.in_err-one.field-0.0 c.loop-count-test.true
    c.in_err-one.ensures)

pub returns-in_err-next : goal.returns-in_err-next
returns-in_err-next c =
    let p = err_from_is_err_and c.from_residual-in_err-next.result c.from_residual-in_err-next.ensures.1 in
    rw (p.1, p.2, length-map) (separated_stops declr_of (kinds c.args.tokens.now)
    (declr_at (kinds c.args.tokens.now) c.args.depth c.args.is_const) s.Semicolon (length c.args.tokens.now) c.loop-count.count
    c.loop-count.next c.loop-count.all.items _ c.loop-count.invariant c.in_ok-one.one c.in_ok-one.after c.in_err-next.field-0.0
    c.loop-count-test.true c.in_ok-one.ensures (sym c.is_sign.ensures.is ∙ c.if-not-is_sign.true) c.in_err-next.ensures)

pub returns-then-not-is_sign : goal.returns-then-not-is_sign
returns-then-not-is_sign c =
    rw (length-map, c.in_ok-push.ensures.items)
    (separated_ends declr_of (kinds c.args.tokens.now) (declr_at (kinds c.args.tokens.now) c.args.depth c.args.is_const) s.Semicolon
    (length c.args.tokens.now) c.loop-count.count c.loop-count.next c.loop-count.all.items _ c.loop-count.invariant c.in_ok-one.one
    c.in_ok-one.after c.in_ok-next.next c.loop-count-test.true c.in_ok-one.ensures (sym c.is_sign.ensures.is ∙ c.if-not-is_sign.true)
    c.in_ok-next.ensures)

pub loop-count-preserved : goal.loop-count-preserved
loop-count-preserved c =
    rw c.in_ok-push.ensures.items (separated_turn declr_of (kinds c.args.tokens.now)
    (declr_at (kinds c.args.tokens.now) c.args.depth c.args.is_const) s.Semicolon (length c.args.tokens.now) c.loop-count.count
    c.loop-count.next c.loop-count.all.items _ c.loop-count.invariant c.in_ok-one.one c.in_ok-one.after c.loop-count-test.true
    c.in_ok-one.ensures (sym c.is_sign.ensures.is ∙ c.if-not-is_sign.false))

pub returns : goal.returns
returns c = rw length-map (separated_over declr_of (kinds c.args.tokens.now)
    (declr_at (kinds c.args.tokens.now) c.args.depth c.args.is_const) s.Semicolon (length c.args.tokens.now) c.loop-count.count
    c.loop-count.next c.loop-count.all.items _ c.loop-count.invariant c.loop-count-test.false)
