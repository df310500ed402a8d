use Rattle.std.proofs.Common.{◌≡◌, ◌+◌, ◌∙◌, map, refl, sym, ap}
use Rattle.rank_state.specs.Windows.{index}
use Rattle.rank_layout.specs.Made.{row_of}
use Rattle.rank_layout.proofs.LoopRows.{row_read, one_row}
use Rattle.rank_layout.proofs.scalar_tables.loop_indices.Goals as goal

pub loop-list-preserved : goal.loop-list-preserved
loop-list-preserved c =
    one_row (λ s xs. xs ≡ map index (row_of c.args.scalars.now s)) c.loop-list.indices.items c.push.new.self.items c.loop-list.list-index (c.loop-list.list-index + 1)
    c.in_ok-indices_of.field-0 c.loop-list.invariant
    (c.in_ok-indices_of.ensures ∙ ap (map index) (c.deref.ensures.value
    ∙ sym (row_read c.args.scalars.now c.loop-list.list-index c.list-item.result c.loop-list-test.true c.list-item.is)))
    refl c.in_ok-push.ensures.items
