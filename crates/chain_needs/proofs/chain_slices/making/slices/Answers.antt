use Rattle.std.proofs.Common.{◌≡◌, ◌<◌, ◌≤◌, ◌+◌, ◌∙◌, List, length, sym, ap, subst, arith}
use Rattle.std.proofs.lemmas.List.{length-map}
use Rattle.bound_program.specs.Values.{bound_of, item_of}
use Rattle.chain_model.specs.Slices.{loops_from}
use Rattle.chain_model.specs.Counts.{begins_at, sum_below}
use Rattle.chain_needs.specs.declared.chain_slices.shapes.Shape.{Shape}
use Rattle.chain_needs.specs.Slices.{ArePlaces}
use Rattle.chain_needs.specs.Shapes.{chain_messages}
use Rattle.chain_needs.proofs.chain_slices.Placings.{messages_here, places_push}
use Rattle.chain_needs.proofs.chain_slices.Counting.{item_messages, begun_messages, other_messages, few_messages, grown}
use Rattle.chain_needs.proofs.chain_slices.making.slices.Goals as goal
use Rattle.chain_needs.proofs.chain_slices.making.slices.Goals.{then-begins_chain, else-begins_chain}

pub overflow_add-messages : goal.overflow_add-messages
overflow_add-messages c =
    let b = bound_of c.args.bound.now in
    let o = c.args.owners.now in
    let k = c.loop-item.item in
    let first : begins_at b k ≡ Rattle.std.proofs.Common.true = sym c.begins_chain.ensures ∙ c.if-begins_chain.true in
    let is : c.messages_at-messages.result ≡ chain_messages b o (loops_from b k) =
    messages_here b o c.deref-then-begins_chain.result.now k c.in_ok-place.place c.messages_at-messages.result
    (subst (Rattle.chain_needs.specs.Slices.AreShapes b o) (sym c.deref-then-begins_chain.ensures.value) c.in_ok-place.ensures.shapes)
    (subst (λ (z : List Shape). Rattle.chain_needs.specs.Slices.IsPlace b z k c.in_ok-place.place)
    (sym c.deref-then-begins_chain.ensures.value) c.in_ok-place.ensures.place) first c.messages_at-messages.ensures in
    let le : chain_messages b o (loops_from b k) ≤ 4096 = few_messages b o (loops_from b k) c.requires.owners.few_ranks in
    let n : length (bound_of c.args.bound.now).trace ≡ length c.args.bound.now.trace.items = length-map c.args.bound.now.trace.items item_of in
    omega (arith, c.loop-item.invariant.few, c.requires.fits.few, c.len-item-end.ensures)

pub loop-item-preserved : goal.loop-item-preserved
loop-item-preserved c =
    let b = bound_of c.args.bound.now in
    let o = c.args.owners.now in
    let k = c.loop-item.item in
    let f = item_messages b o in
    let placed = places_push b c.loop-item.shapes.items c.place_of.new.shapes.items k c.loop-item.places.items c.in_ok-place.place
    c.in_ok-place.ensures.keeps c.loop-item.invariant.places c.in_ok-place.ensures.place in
    elim c.if-begins_chain.branch [
      | then-begins_chain w ↦
          let first : begins_at b k ≡ Rattle.std.proofs.Common.true = sym c.begins_chain.ensures ∙ w.if-begins_chain.true in
          let is : w.messages_at-messages.result ≡ chain_messages b o (loops_from b k) =
          messages_here b o w.deref-then-begins_chain.result.now k c.in_ok-place.place w.messages_at-messages.result
          (subst (Rattle.chain_needs.specs.Slices.AreShapes b o) (sym w.deref-then-begins_chain.ensures.value) c.in_ok-place.ensures.shapes)
          (subst (λ (z : List Shape). Rattle.chain_needs.specs.Slices.IsPlace b z k c.in_ok-place.place)
          (sym w.deref-then-begins_chain.ensures.value) c.in_ok-place.ensures.place) first w.messages_at-messages.ensures in
          let le : chain_messages b o (loops_from b k) ≤ 4096 = few_messages b o (loops_from b k) c.requires.owners.few_ranks in
          let g = grown k f c.loop-item.messages c.if-begins_chain.messages w.messages_at-messages.result c.loop-item.invariant.messages c.loop-item.invariant.few
          (is ∙ sym (begun_messages b o k first)) (omega arith) w.messages-is in
          rw c.in_ok-push.ensures.items (record { shapes = c.in_ok-place.ensures.shapes; places = placed; messages = g.0; few = g.1 })
      | else-begins_chain w ↦
          let first : begins_at b k ≡ Rattle.std.proofs.Common.false = sym c.begins_chain.ensures ∙ w.if-begins_chain.false in
          let same : c.if-begins_chain.messages ≡ c.loop-item.messages = w.messages-is in
          let g = grown k f c.loop-item.messages c.if-begins_chain.messages 0 c.loop-item.invariant.messages c.loop-item.invariant.few
          (sym (other_messages b o k first)) (omega arith) (omega arith) in
          rw c.in_ok-push.ensures.items (record { shapes = c.in_ok-place.ensures.shapes; places = placed; messages = g.0; few = g.1 })
    ]

pub returns : goal.returns
returns c =
    let b = bound_of c.args.bound.now in
    let o = c.args.owners.now in
    let e : c.loop-item.item ≡ length (bound_of c.args.bound.now).trace = omega (arith, length-map c.args.bound.now.trace.items item_of, c.len-item-end.ensures) in
    record {
      few_ranks = c.requires.owners.few_ranks;
      shapes = c.loop-item.invariant.shapes;
      places = subst (λ n. ArePlaces b c.loop-item.shapes.items n c.loop-item.places.items) e c.loop-item.invariant.places;
      chains = c.chain_count.ensures;
      messages = c.loop-item.invariant.messages ∙ ap (λ n. sum_below n (item_messages b o)) e;
    }
