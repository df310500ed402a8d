use Rattle.std.proofs.Common.{◌+◌, ◌∙◌, sym, ap, Some, arith}
use Rattle.bound_program.specs.Values.{bound_of, item_of}
use Rattle.mesh_draw.specs.Pieces.{item_lines}
use Rattle.mesh_draw.proofs.output_pieces.Searching.{item_here, item_fits, more_lines, more_prints, same_prints}
use Rattle.mesh_draw.proofs.output_pieces.prints.find_print.Goals.{in-Some+else-left-eq0, in_default}
use Rattle.mesh_draw.proofs.output_pieces.prints.find_print.Goals as goal

pub returns-then-left-eq0-clause-ok : goal.returns-then-left-eq0-clause-ok
returns-then-left-eq0-clause-ok c =
    let items = c.args.bound.now.trace.items in
    let here = item_here c.deref-item-items.result.now items c.loop-item.item-index c.item-item.result c.deref-item-items.ensures.value c.loop-item-test.true c.item-item.is in
    let is = here ∙ ap Some c.in-Some.ensures.some in
    record {
      item = c.loop-item.item-index;
      is = record {
        prints = is;
        passed = (
            let left = c.if-left-eq0.true in
            let passed = c.loop-item.invariant.passed in
            omega arith);
      };
      there = item_fits (bound_of c.args.bound.now) c.loop-item.item-index _ c.requires.items is;
      before = c.loop-item.invariant.lines;
    }

pub lines_of-requires : goal.lines_of-requires
lines_of-requires c =
    let here = item_here c.deref-item-items.result.now c.args.bound.now.trace.items c.loop-item.item-index c.item-item.result c.deref-item-items.ensures.value c.loop-item-test.true c.item-item.is in
    item_fits (bound_of c.args.bound.now) c.loop-item.item-index _ c.requires.items here

pub loop-item-preserved : goal.loop-item-preserved
loop-item-preserved c =
    let b = bound_of c.args.bound.now in
    let i = c.loop-item.item-index in
    let here = item_here c.deref-item-items.result.now c.args.bound.now.trace.items i c.item-item.result c.deref-item-items.ensures.value c.loop-item-test.true c.item-item.is in
    let more = more_lines b i _ here in
    let lines = c.in_ok-before.ensures.ok ∙ ap (λ n. c.loop-item.before + n) c.in_ok-lines_of.ensures.ok
    ∙ ap (λ n. n + item_lines b.mesh (item_of c.item-item.result)) c.loop-item.invariant.lines ∙ sym more in
    elim c.match-printed_by.branch [
      | in-Some+else-left-eq0 w ↦ record {
        passed = (
            let more_one = more_prints c.args.file.now b.trace i _ here (sym w.in-Some.ensures.is) in
            let left = w.left-is in
            let some = w.if-left-eq0.false in
            let passed = c.loop-item.invariant.passed in
            omega arith);
        lines = lines;
      }
      | in_default w ↦ record {
        passed = (
            let as_many = same_prints c.args.file.now b.trace i _ here (sym w.in_default.ensures.is) in
            let left = w.left-is in
            let passed = c.loop-item.invariant.passed in
            omega arith);
        lines = lines;
      }
    ]
