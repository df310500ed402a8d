use Rattle.std.proofs.Common.{◌+◌, ◌∙◌, sym, ap, Some}
use Rattle.bound_program.specs.Values.{bound_of, item_of}
use Rattle.mesh_draw.specs.Pieces.{item_lines}
use Rattle.mesh_draw.proofs.output_pieces.Searching.{item_here, item_fits, more_lines}
use Rattle.mesh_draw.proofs.output_pieces.LastPrints.{found_here, found_more}
use Rattle.mesh_draw.proofs.output_pieces.last.find_last.Goals.{in-Some, in_default}
use Rattle.mesh_draw.proofs.output_pieces.last.find_last.Goals as goal

pub lines_of-requires : goal.lines_of-requires
lines_of-requires c =
    let here = item_here c.deref-item-items.result.now c.args.bound.now.trace.items c.loop-item.item-index c.item-item.result c.deref-item-items.ensures.value c.loop-item-test.true c.item-item.is in
    item_fits (bound_of c.args.bound.now) c.loop-item.item-index _ c.requires.items here

pub loop-item-preserved : goal.loop-item-preserved
loop-item-preserved c =
    let b = bound_of c.args.bound.now in
    let i = c.loop-item.item-index in
    let here = item_here c.deref-item-items.result.now c.args.bound.now.trace.items i c.item-item.result c.deref-item-items.ensures.value c.loop-item-test.true c.item-item.is in
    let more = more_lines b i _ here in
    let lines = c.in_ok-before.ensures.ok ∙ ap (λ n. c.loop-item.before + n) c.in_ok-lines_of.ensures.ok
    ∙ ap (λ n. n + item_lines b.mesh (item_of c.item-item.result)) c.loop-item.invariant.lines ∙ sym more in
    elim c.match-file_of.branch [
      | in-Some w ↦ record {
        found = rw w.last-is (found_here b i c.args.dat (record { file = w.in-Some.file; before = c.loop-item.before }) (here ∙ ap Some w.in-Some.ensures.some) c.loop-item.invariant.lines);
        lines = lines;
      }
      | in_default w ↦ record {
        found = rw w.last-is (found_more b i c.args.dat _ c.loop-item.last here (sym w.in_default.ensures.is) c.loop-item.invariant.found);
        lines = lines;
      }
    ]
