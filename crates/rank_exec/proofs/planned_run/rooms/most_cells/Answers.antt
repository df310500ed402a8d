use Rattle.std.proofs.Common.{◌≡◌, ◌≤◌, true, sym, ap, subst, ◌∙◌, arith, below_more}
use Rattle.std.specs.Prelude.{vec_capacity}
use Rattle.std.proofs.lemmas.Bool.{false≢true}
use Rattle.schedule_steps.specs.Outline.{Outline}
use Rattle.schedule_model.specs.Layout.{message_cells}
use Rattle.rank_program.specs.Sound.{layout_in, outline_in}
use Rattle.rank_exec.specs.Room.{item_cells}
use Rattle.rank_exec.proofs.planned_run.rooms.most_cells.Goals as goal
use Rattle.rank_exec.proofs.planned_run.rooms.most_cells.Goals.{then-is_free+in_ok-cells, else-is_free}

pub cells_in_item-requires-clause-free : goal.cells_in_item-requires-clause-free
cells_in_item-requires-clause-free c = subst (λ (o : Outline). o.is_free c.loop-item.item ≡ true) c.requires.shape (sym c.if-is_free.ensures)

pub loop-item-preserved : goal.loop-item-preserved
loop-item-preserved c =
    let o = outline_in c.args.program.now in
    let cells = item_cells (outline_in c.args.program.now) (message_cells (layout_in c.args.program.now)) in
    elim c.if-is_free.branch [
      | then-is_free+in_ok-cells w ↦ record {
        most = below_more (λ k. o.is_free k ≡ true → cells k ≤ c.if-is_free.most) c.loop-item.item
            (λ k l f. let old : cells k ≤ c.loop-item.most = c.loop-item.invariant.most k l f in omega arith)
            (λ f. omega arith);
        room = omega (arith, ap vec_capacity w.spans-is, w.cells_in_item.ensures.room, c.loop-item.invariant.room);
      }
      | else-is_free w ↦ record {
        most = below_more (λ k. o.is_free k ≡ true → cells k ≤ c.if-is_free.most) c.loop-item.item
            (λ k l f. let old : cells k ≤ c.loop-item.most = c.loop-item.invariant.most k l f in omega arith)
            (λ f. absurd (false≢true (w.if-is_free.ensures ∙ (ap (λ (z : Outline). z.is_free c.loop-item.item) c.requires.shape ∙ f))));
        room = omega (arith, ap vec_capacity w.spans-is, c.loop-item.invariant.room);
      }
    ]
