use Rattle.std.proofs.Common.{◌≡◌, ℕ, ℤ, ◌+◌, ◌≤◌, ◌∙◌, ◌∷◌, ◌++◌, [], ap, sym, subst, length, get_or, take, drop, arith, add-one, drop-cons}
use Rattle.rank_state.specs.declared.owned.Owned.{Owned}
use Rattle.rank_state.specs.Spans.{with_window, cells_at}
use Rattle.rank_state.specs.Ordered.{Within_all, total_all, gathered_all}
use Rattle.rank_state.proofs.rank_memory.Views.{lists, row_is}
use Rattle.rank_state.proofs.rank_memory.Kept.{next_gathered}
use Rattle.rank_state.proofs.rank_memory.owned.gather_all.Goals as goal

abbrev no_span : Owned
no_span = record { rank = 0; at = 0; dim = 0 }

pub loop-span-preserved : goal.loop-span-preserved
loop-span-preserved c =
    let e : drop c.loop-span.span-index c.args.spans.now ≡ get_or c.args.spans.now c.loop-span.span-index no_span
    ∷ drop (c.loop-span.span-index + 1) c.args.spans.now =
    drop-cons c.args.spans.now c.loop-span.span-index no_span c.loop-span-test.true
    ∙ ap (λ n. get_or c.args.spans.now c.loop-span.span-index no_span ∷ drop n c.args.spans.now) (sym (add-one c.loop-span.span-index))
    in
    let inv = c.loop-span.invariant in
    let inside : Within_all (lists c.args.memories.now)
    (get_or c.args.spans.now c.loop-span.span-index no_span ∷ drop (c.loop-span.span-index + 1) c.args.spans.now) =
    subst (Within_all (lists c.args.memories.now)) e inv.inside in
    let room : c.loop-span.from + total_all (get_or c.args.spans.now c.loop-span.span-index no_span
    ∷ drop (c.loop-span.span-index + 1) c.args.spans.now) ≤ length c.loop-span.frame =
    subst (λ l. c.loop-span.from + total_all l ≤ length c.loop-span.frame) e inv.room in
    let count : c.loop-span.from + total_all (get_or c.args.spans.now c.loop-span.span-index no_span
    ∷ drop (c.loop-span.span-index + 1) c.args.spans.now) ≡ total_all c.args.spans.now =
    subst (λ l. c.loop-span.from + total_all l ≡ total_all c.args.spans.now) e inv.count in
    let n : length (lists c.args.memories.now) ≡ length c.args.memories.now =
    Rattle.std.proofs.lemmas.List.length-map c.args.memories.now
    (λ (v : Rattle.std.proofs.Common.Vec ℤ Rattle.std.proofs.Common.Global). v.items) in
    let row : c.deref.result.now ≡ get_or (lists c.args.memories.now) (get_or c.args.spans.now c.loop-span.span-index no_span).rank [] =
    c.deref.ensures.value ∙ row_is c.args.memories.now (get_or c.args.spans.now c.loop-span.span-index no_span).rank
    c.index-memories-span.result (omega (arith, inside.0)) c.index-memories-span.is in
    record {
      inside = inside.2;
      count = omega arith;
      room = omega (arith, c.copy.auto.target);
      done = next_gathered c.loop-span.from c.loop-span.frame c.copy.new.target (get_or c.args.spans.now c.loop-span.span-index no_span)
          (drop (c.loop-span.span-index + 1) c.args.spans.now) c.args.spans.now (lists c.args.memories.now) inside room
          (subst (λ l. take c.loop-span.from c.loop-span.frame ++ gathered_all (lists c.args.memories.now) l ≡ gathered_all (lists c.args.memories.now) c.args.spans.now) e inv.done)
          (c.copy.ensures ∙ ap (λ m. with_window c.loop-span.from
          (cells_at (get_or c.args.spans.now c.loop-span.span-index no_span).at
          (get_or c.args.spans.now c.loop-span.span-index no_span).dim m) c.loop-span.frame) row);
    }
