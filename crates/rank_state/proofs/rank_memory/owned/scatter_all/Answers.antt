use Rattle.std.proofs.Common.{◌≡◌, ◌+◌, ◌≤◌, ◌∙◌, ◌∷◌, ap, sym, subst, length, get_or, drop, arith, add-one, drop-cons}
use Rattle.rank_state.specs.declared.owned.Owned.{Owned}
use Rattle.rank_state.specs.Ordered.{Within_all, total_all, scattered_all}
use Rattle.rank_state.proofs.rank_memory.Views.{lists}
use Rattle.rank_state.proofs.rank_memory.Kept.{next_put}
use Rattle.rank_state.proofs.rank_memory.owned.scatter_all.Goals as goal

abbrev no_span : Owned
no_span = record { rank = 0; at = 0; dim = 0 }

pub loop-span-preserved : goal.loop-span-preserved
loop-span-preserved c =
    let e : drop c.loop-span.span-index c.args.spans.now ≡ get_or c.args.spans.now c.loop-span.span-index no_span
    ∷ drop (c.loop-span.span-index + 1) c.args.spans.now =
    drop-cons c.args.spans.now c.loop-span.span-index no_span c.loop-span-test.true
    ∙ ap (λ n. get_or c.args.spans.now c.loop-span.span-index no_span ∷ drop n c.args.spans.now) (sym (add-one c.loop-span.span-index))
    in
    let inv = c.loop-span.invariant in
    let room : c.loop-span.from + total_all (get_or c.args.spans.now c.loop-span.span-index no_span
    ∷ drop (c.loop-span.span-index + 1) c.args.spans.now) ≤ length c.args.frame.now =
    subst (λ l. c.loop-span.from + total_all l ≤ length c.args.frame.now) e inv.room in
    let next = next_put c.loop-span.from c.args.frame.now (get_or c.args.spans.now c.loop-span.span-index no_span)
    (drop (c.loop-span.span-index + 1) c.args.spans.now) (lists c.loop-span.memories) (lists c.put_row.new.memories)
    (subst (Within_all (lists c.loop-span.memories)) e inv.inside) room c.put_row.ensures.cells in
    record {
      inside = next.0;
      room = omega arith;
      left = next.1 ∙ ap (λ l. scattered_all c.loop-span.from c.args.frame.now l (lists c.loop-span.memories)) (sym e) ∙ inv.left;
      spare = λ n all. c.put_row.ensures.spare n (inv.spare n all);
    }
