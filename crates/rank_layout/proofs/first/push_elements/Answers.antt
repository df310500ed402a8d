use Rattle.std.proofs.Common.{◌++◌, length, take, flat_map, sym, ap, ◌∙◌, append_assoc}
use Rattle.rank_layout.proofs.Stretches.{of_element, together, stretch_within}
use Rattle.rank_layout.proofs.first.push_elements.Goals as goal

pub values_from-requires : goal.values_from-requires
values_from-requires c =
    let n = c.stretch_at-count in
    stretch_within c.args.elements.now c.loop-done.done n.result c.args.dim (length c.args.values.now) c.requires n.ensures.some n.ensures.within n.ensures.next

pub loop-done-preserved : goal.loop-done-preserved
loop-done-preserved c =
    let n = c.stretch_at-count in
    let i = c.loop-done.done in
    let xs = c.args.elements.now in
    let vs = c.args.values.now in
    let dim = c.args.dim in
    let f = of_element vs dim in
    let front = flat_map f (take i xs) in
    let old = c.args.cells.now.items in
    let more = together vs dim xs i n.result n.ensures.within n.ensures.next in
    record {
      within = n.ensures.within;
      put = c.in_ok-extend_from_slice.ensures.items
          ∙ (ap (λ z. z ++ c.values_from.result.now) c.loop-done.invariant.put
          ∙ (append_assoc old front c.values_from.result.now
          ∙ ap (λ z. old ++ z) (ap (λ z. front ++ z) c.values_from.ensures ∙ sym more)));
    }
