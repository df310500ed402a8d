use Rattle.std.proofs.Common.{◌≡◌, ◌≤◌, ◌+◌, ◌-◌, ◌++◌, ◌∷◌, [], length, take, drop, sym, ◌∙◌, arith, ℕ, length-drop, false}
use Rattle.std.proofs.lemmas.List.{length-take, drop_all}
use Rattle.c_tree.specs.Lexed.{AtEnd, AtBadByte, AtOpenComment, AtOpenText, AtNumberTooLarge}
use Rattle.c_tree.proofs.lexer.Closes.{rest_is}
use Rattle.c_tree.proofs.lexer.Fits.{advance_line, advance_column}
use Rattle.c_tree.proofs.lexer.Turns.{passed_more, token_more, stops_here, clash_stops, apart, bad_stops}
use Rattle.c_tree.proofs.lexer.lexing.scan.Goals as goal

left : (n : ℕ) (bs : Rattle.std.proofs.Common.List ℕ) → Rattle.std.proofs.Common.◌<◌ n (length bs) → Rattle.std.proofs.Common.◌<◌ 0 (length (drop n bs))
left n bs h = omega (arith, length-drop n bs)

pub returns-then-clashes : goal.returns-then-clashes
returns-then-clashes c =
    let bs = c.args.bytes.now in
    let n = c.loop-from.from in
    stops_here bs c.loop-from.is_fresh c.loop-from.is_after_number n c.loop-from.at c.loop-from.tokens.items (AtBadByte [])
    (clash_stops c.loop-from.is_fresh c.loop-from.is_after_number (drop n bs) (left n bs c.loop-from-test.true)
    (rw (rest_is n bs) at (sym c.clashes.ensures ∙ c.if-clashes.true))) c.loop-from.invariant.state

pub loop-from-preserved-in-Passed : goal.loop-from-preserved-in-Passed
loop-from-preserved-in-Passed c =
    let bs = c.args.bytes.now in
    let n = c.loop-from.from in
    let l = c.in-Passed.len in
    let fits = rw c.in-Passed.is at (rw (rest_is n bs) at c.in_ok-len.ensures.within) in
    let found = rw c.in-Passed.is at (rw (rest_is n bs) at c.in_ok-len.ensures.is) in
    let size = length-drop n bs in
    let long = length-take l (drop n bs) in
    let clear = apart c.loop-from.is_after_number (drop n bs) (rw (rest_is n bs) at (sym c.clashes.ensures ∙ c.if-clashes.false)) in
    rw (rw (rest_is n bs) at c.advanced-at.ensures, rw (rest_is n bs) at c.is_fresh_after-is_fresh.ensures) (record {
      within = omega (arith, fits.0, fits.1, size);
      line = omega (arith, advance_line c.loop-from.at (take l (drop n bs)), c.loop-from.invariant.line, long, fits.1);
      column = omega (arith, advance_column c.loop-from.at (take l (drop n bs)), c.loop-from.invariant.column, long, fits.1);
      state = passed_more bs c.loop-from.is_fresh c.loop-from.is_after_number n c.loop-from.at c.loop-from.tokens.items l fits.1 clear found c.loop-from.invariant.state;
    })

pub loop-from-preserved : goal.loop-from-preserved
loop-from-preserved c =
    let bs = c.args.bytes.now in
    let n = c.loop-from.from in
    let l = c.in-Token.len in
    let fits = rw c.in-Token.is at (rw (rest_is n bs) at c.in_ok-len.ensures.within) in
    let found = rw c.in-Token.is at (rw (rest_is n bs) at c.in_ok-len.ensures.is) in
    let size = length-drop n bs in
    let long = length-take l (drop n bs) in
    let clear = apart c.loop-from.is_after_number (drop n bs) (rw (rest_is n bs) at (sym c.clashes.ensures ∙ c.if-clashes.false)) in
    rw (rw (rest_is n bs) at c.advanced-next.ensures, c.is_number-is_after_number.ensures, c.in_ok-push-in-Token.ensures.items) (record {
      within = omega (arith, fits.0, fits.1, size);
      line = omega (arith, advance_line c.loop-from.at (take l (drop n bs)), c.loop-from.invariant.line, long, fits.1);
      column = omega (arith, advance_column c.loop-from.at (take l (drop n bs)), c.loop-from.invariant.column, long, fits.1);
      state = token_more bs c.loop-from.is_fresh c.loop-from.is_after_number n c.loop-from.at c.loop-from.tokens.items c.in-Token.kind l fits.1 clear found c.loop-from.invariant.state;
    })

pub returns-in-BadByte : goal.returns-in-BadByte
returns-in-BadByte c =
    let bs = c.args.bytes.now in
    let n = c.loop-from.from in
    let l = c.in-BadByte.len in
    let found = rw c.in-BadByte.is at (rw (rest_is n bs) at c.in_ok-len.ensures.is) in
    let clear = apart c.loop-from.is_after_number (drop n bs) (rw (rest_is n bs) at (sym c.clashes.ensures ∙ c.if-clashes.false)) in
    rw (rw (rest_is n bs) at c.advanced.ensures)
    (stops_here bs c.loop-from.is_fresh c.loop-from.is_after_number n c.loop-from.at c.loop-from.tokens.items
    (AtBadByte (take l (drop n bs))) (bad_stops c.loop-from.is_fresh c.loop-from.is_after_number (drop n bs) l clear found)
    c.loop-from.invariant.state)

pub returns-in-OpenComment : goal.returns-in-OpenComment
returns-in-OpenComment c =
    let bs = c.args.bytes.now in
    let n = c.loop-from.from in
    let found = rw c.in-OpenComment.is at (rw (rest_is n bs) at c.in_ok-len.ensures.is) in
    stops_here bs c.loop-from.is_fresh c.loop-from.is_after_number n c.loop-from.at c.loop-from.tokens.items AtOpenComment found c.loop-from.invariant.state

pub returns-in-OpenText : goal.returns-in-OpenText
returns-in-OpenText c =
    let bs = c.args.bytes.now in
    let n = c.loop-from.from in
    let found = rw c.in-OpenText.is at (rw (rest_is n bs) at c.in_ok-len.ensures.is) in
    stops_here bs c.loop-from.is_fresh c.loop-from.is_after_number n c.loop-from.at c.loop-from.tokens.items AtOpenText found c.loop-from.invariant.state

pub returns-in-TooLarge : goal.returns-in-TooLarge
returns-in-TooLarge c =
    let bs = c.args.bytes.now in
    let n = c.loop-from.from in
    let found = rw c.in-TooLarge.is at (rw (rest_is n bs) at c.in_ok-len.ensures.is) in
    let clear = apart c.loop-from.is_after_number (drop n bs) (rw (rest_is n bs) at (sym c.clashes.ensures ∙ c.if-clashes.false)) in
    stops_here bs c.loop-from.is_fresh c.loop-from.is_after_number n c.loop-from.at c.loop-from.tokens.items AtNumberTooLarge (clear, found) c.loop-from.invariant.state

pub returns : goal.returns
returns c =
    let bs = c.args.bytes.now in
    let n = c.loop-from.from in
    stops_here bs c.loop-from.is_fresh c.loop-from.is_after_number n c.loop-from.at c.loop-from.tokens.items AtEnd (drop_all n bs c.loop-from-test.false) c.loop-from.invariant.state
