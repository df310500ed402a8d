use Rattle.std.proofs.Common.{◌≡◌, ℤ, ◌∙◌, [], ap, sym, length, get_or, Vec, Global}
use Rattle.rank_state.specs.Spans.{with_window, cells_at}
use Rattle.rank_state.proofs.rank_memory.Views.{lists, row_is, row_put}
use Rattle.rank_state.proofs.rank_memory.owned.put_row.Goals as goal

row_here : (c : goal.After-memories-1) → c.deref_mut.result.now ≡ get_or (lists c.args.memories.now) c.args.rank []
row_here c = c.deref_mut.ensures.value ∙
    (ap (λ (v : Vec ℤ Global). v.items) (sym c.index-memories-rank.is)
    ∙ row_is c.args.memories.now c.args.rank c.index-memories-rank.result c.requires.rank c.index-memories-rank.is)

pub returns-clause-cells : goal.returns-clause-cells
returns-clause-cells c =
    row_put c.args.memories.now c.args.rank (get_or c.args.memories.now c.args.rank c.index-memories-rank.result) c.copy.new.target
    (with_window c.args.at (cells_at c.args.from c.args.dim c.args.frame.now) (get_or (lists c.args.memories.now) c.args.rank []))
    (c.copy.auto.target ∙ ap length c.deref_mut.ensures.value)
    (c.copy.ensures ∙ ap (with_window c.args.at (cells_at c.args.from c.args.dim c.args.frame.now)) (row_here c))
