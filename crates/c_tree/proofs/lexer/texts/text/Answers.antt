use Rattle.std.proofs.Common.{drop, sym, ◌∙◌, arith, ap, length-drop}
use Rattle.std.proofs.lemmas.List.{drop_all}
use Rattle.c_tree.specs.Lexed.{is_closed}
use Rattle.c_tree.proofs.lexer.Closes.{rest_is}
use Rattle.c_tree.specs.Spelling.{textual}
use Rattle.c_tree.proofs.lexer.Units.{IsUnit, unit_is, list_all-push}
use Rattle.c_tree.proofs.lexer.Fronts.{open_text, text_more}
use Rattle.c_tree.proofs.lexer.texts.text.Goals as goal

pub loop-next-preserved : goal.loop-next-preserved
loop-next-preserved c =
    let bs = c.args.bytes.now in
    let n = c.loop-next.next in
    let fits = rw (rest_is n bs) at c.in-Some.ensures.within in
    let unit : IsUnit (drop n bs) (c.in-Some.byte, c.in-Some.len) = unit_is (drop n bs) (c.in-Some.byte, c.in-Some.len) (rw (rest_is n bs) at (sym c.unit.ensures.is ∙ c.in-Some.is)) in
    rw c.in_ok-push-in-Some.ensures.items (record {
      some = omega arith;
      within = omega (arith, fits.0, fits.1, length-drop n bs);
      textual = list_all-push textual c.loop-next.decoded.items c.in-Some.byte c.loop-next.invariant.textual unit.held;
      so_far = text_more bs c.loop-next.decoded.items n c.in-Some.byte c.in-Some.len c.loop-next.invariant.so_far unit.spelled;
    })

pub returns-clause-is : goal.returns-clause-is
returns-clause-is c =
    open_text c.args.bytes.now c.loop-next.decoded.items c.loop-next.next c.loop-next.invariant.so_far (ap is_closed (drop_all c.loop-next.next c.args.bytes.now c.loop-next-test.false))
