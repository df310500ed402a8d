use Rattle.std.proofs.Common.{rules, ◌≡◌, ◌*◌, ◌∙◌, ℕ, ap, ap₂, sym, subst, arith, length, replicate, List}
use Rattle.std.proofs.lemmas.Grind.{common_steps}
use Rattle.rank_state.specs.declared.rank_memory.slot.Slot.{Slot}
use Rattle.rank_state.specs.Frames.{Panes, Pane}
use Rattle.rank_state.specs.Slots.{Tied, no_slot, panes_in, entries}
use Rattle.rank_state.proofs.rank_memory.Slots.{Table}
use Rattle.rank_state.proofs.rank_memory.Entries.{zeros_say}
use Rattle.rank_state.proofs.rank_memory.Fresh.{none_open, all_shut, tied_fresh}
use Rattle.rank_state.proofs.rank_memory.frames.Frames.new.Goals as goal

abbrev of_parts : List (List Pane) → ℕ → ℕ → Panes
of_parts ps l st = record { panes = ps; left = l; stride = st }

pub invariant_of-result : goal.invariant_of-result
invariant_of-result c =
    let ss : c.in_ok-slots.slots.items ≡ replicate c.args.peak no_slot = c.in_ok-slots.ensures.items_if_clones_equal (search rules) in
    let lg : length c.in_ok-staging.staging.items ≡ c.args.peak * c.args.stride = grind (arith, common_steps) in
    let same : c.in-Ok.count ≡ c.args.peak = grind (arith, common_steps) in
    let lf : length c.in_ok-free.free.items ≡ c.args.peak = grind (arith, common_steps) in (
      subst (λ (t : Table). Tied c.args.stride t c.in_ok-slots.slots.items c.in_ok-staging.staging.items c.in_ok-free.free.items) (sym (ap entries c.in_ok-table.ensures ∙ zeros_say c.args.shape.now))
          (subst (λ (s : List Slot). Tied c.args.stride (none_open c.args.shape.now) s c.in_ok-staging.staging.items c.in_ok-free.free.items) (sym ss)
          (tied_fresh c.args.stride c.args.peak c.args.shape.now c.in_ok-staging.staging.items c.in_ok-free.free.items lg lf (λ i lt. c.in_ok-free.ensures.each i (omega (arith, lt, same))))),
      omega (arith, c.in_ok-free.ensures.room, c.in_ok-slots.ensures.len),
      omega (arith, c.in_ok-slots.ensures.len),
    )

pub returns : goal.returns
returns c =
    let same : c.in-Ok.count ≡ c.args.peak = grind (arith, common_steps) in
    ap₂ (λ t l. of_parts (panes_in c.args.stride t c.in_ok-slots.slots.items c.in_ok-staging.staging.items) l c.args.stride)
    (ap entries c.in_ok-table.ensures ∙ zeros_say c.args.shape.now) (c.in_ok-free.ensures.len ∙ same)
    ∙ ap (λ ps. of_parts ps c.args.peak c.args.stride) (all_shut c.args.stride c.in_ok-slots.slots.items c.in_ok-staging.staging.items c.args.shape.now)
