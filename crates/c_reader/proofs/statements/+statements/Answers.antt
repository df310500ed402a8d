use Rattle.std.proofs.Common.{refl, sym, subst, ◌∙◌, length, slice_get}
use Rattle.std.proofs.lemmas.List.{length-map}
use Rattle.std.proofs.lemmas.Result.{err_from_is_err_and}
use Rattle.c_reader.specs.Descent.{Gives, sign_is}
use Rattle.c_reader.specs.Rows.{seen_by}
use Rattle.c_reader.specs.Kinds.{kinds}
use Rattle.c_tree.specs.declared.lexer.tokens.Sign.TheVariants as s
use Rattle.c_tree.specs.View.{stmt_of}
use Rattle.c_reader.specs.Statements.{stmt_at}
use Rattle.c_reader.proofs.StmtTurns.{block_view, block_led, if_two, if_two_fails, at_level}
use Rattle.c_reader.proofs.LoopTurns.{until_turn, until_fails, until_ends, until_over}
use Rattle.c_reader.proofs.statements.+statements.Goals as goal

pub read_stmts-returns-then-is_sign : goal.read_stmts-returns-then-is_sign
read_stmts-returns-then-is_sign t c = rw length-map
    (until_ends stmt_of (λ m. sign_is s.RightBrace (slice_get (kinds c.args.tokens.now) m)) (stmt_at (kinds c.args.tokens.now) c.args.depth)
    (length c.args.tokens.now) c.loop-count.count c.loop-count.next c.loop-count.all.items _ c.loop-count.invariant c.loop-count-test.true
    (sym c.is_sign.ensures.is ∙ c.if-is_sign.true))

pub read_stmts-returns-in_err-one : goal.read_stmts-returns-in_err-one
read_stmts-returns-in_err-one t c =
    let p = err_from_is_err_and c.from_residual.result c.from_residual.ensures.1 in
    rw (p.1, p.2, length-map) (until_fails stmt_of (λ m. sign_is s.RightBrace (slice_get (kinds c.args.tokens.now) m))
    (stmt_at (kinds c.args.tokens.now) c.args.depth) (length c.args.tokens.now) c.loop-count.count c.loop-count.next
    c.loop-count.all.items _ c.loop-count.invariant c.in_err-one.field-0.0 c.loop-count-test.true
    (sym c.is_sign.ensures.is ∙ c.if-is_sign.false) c.in_err-one.ensures)

pub read_stmts-loop-count-preserved : goal.read_stmts-loop-count-preserved
read_stmts-loop-count-preserved t c =
    rw c.in_ok-push.ensures.items (until_turn stmt_of (λ m. sign_is s.RightBrace (slice_get (kinds c.args.tokens.now) m))
    (stmt_at (kinds c.args.tokens.now) c.args.depth) (length c.args.tokens.now) c.loop-count.count c.loop-count.next
    c.loop-count.all.items _ c.loop-count.invariant c.in_ok-one.one c.in_ok-one.after c.loop-count-test.true
    (sym c.is_sign.ensures.is ∙ c.if-is_sign.false) c.in_ok-one.ensures)

pub read_stmts-returns : goal.read_stmts-returns
read_stmts-returns t c = rw length-map
    (until_over stmt_of (λ m. sign_is s.RightBrace (slice_get (kinds c.args.tokens.now) m)) (stmt_at (kinds c.args.tokens.now) c.args.depth)
    (length c.args.tokens.now) c.loop-count.count c.loop-count.next c.loop-count.all.items _ c.loop-count.invariant c.loop-count-test.false)

pub read_if-returns-in_err-otherwise : goal.read_if-returns-in_err-otherwise
read_if-returns-in_err-otherwise t c =
    let p = err_from_is_err_and c.from_residual-in_err-otherwise.result c.from_residual-in_err-otherwise.ensures.1 in
    rw (p.1, p.2) (if_two_fails (kinds c.args.tokens.now) c.args.depth (stmt_at (kinds c.args.tokens.now) c.args.depth) c.args.at _ _ _ _
    c.in_err-otherwise.field-0.0 c.in_ok-condition.ensures c.in_ok-then.ensures (sym c.is_word.ensures.is ∙ c.if-is_word.true)
    c.in_err-otherwise.ensures)

pub read_if-returns-in_ok-otherwise : goal.read_if-returns-in_ok-otherwise
read_if-returns-in_ok-otherwise t c =
    (if_two (kinds c.args.tokens.now) c.args.depth (stmt_at (kinds c.args.tokens.now) c.args.depth) c.args.at _ _ _ _ _ _
    c.in_ok-condition.ensures c.in_ok-then.ensures (sym c.is_word.ensures.is ∙ c.if-is_word.true) c.in_ok-otherwise.ensures)

pub read_block-returns : goal.read_block-returns
read_block-returns t c =
    rw (block_view c.args.at c.in_ok-body.body)
    (block_led (kinds c.args.tokens.now) c.args.depth (stmt_at (kinds c.args.tokens.now) c.args.depth) _ c.args.at _ _ _ _ refl
    c.in_ok-next.ensures c.in_ok-body.ensures c.in_ok-next-2.ensures)

pub read_stmt-returns : goal.read_stmt-returns
read_stmt-returns t c =
    subst (Gives (seen_by stmt_of) c.read_led.result) (sym (at_level (kinds c.args.tokens.now) c.args.depth c.args.at c.if-depth-eq0.false)) c.read_led.ensures
