use Rattle.std.proofs.Common.{◌≡◌, ℕ, ℤ, ◌<◌, ◌-◌, ◌++◌, [], ◌∷◌, ◌∙◌, refl, ap, ap₂, sym, subst, arith, length, get_or, set, List, vec_len, Some, length-set}
use Rattle.std.specs.Vec.{with_items}
use Rattle.rank_state.specs.declared.rank_memory.slot.Slot.{Slot}
use Rattle.rank_state.specs.Frames.{Panes, Pane, pane_after, with_pane, opened}
use Rattle.rank_state.specs.Slots.{Tied, panes_in, entries, with_entry}
use Rattle.rank_state.specs.Spans.{cells_at}
use Rattle.kernel_model.specs.declared.types.faults.KernelFault.{KernelFault}
use Rattle.schedule_model.specs.Layout.{Leaves}
use Rattle.rank_state.proofs.rank_memory.Slots.{Table, opened_panes, tied_opened, last_free}
use Rattle.rank_state.proofs.rank_memory.Vecs.{Rows, lists, Stands, stands}
use Rattle.rank_state.proofs.rank_memory.frames.Frames.open.Goals as goal
use Rattle.lemmas.proofs.Lists.{refilled}

abbrev of_parts : List (List Pane) → ℕ → ℕ → Panes
of_parts ps l st = record { panes = ps; left = l; stride = st }

pub put_slot-requires-clause-element : goal.put_slot-requires-clause-element
put_slot-requires-clause-element c =
    let inside = c.self.inside in
    subst (λ (ws : Rows). c.args.element < length (get_or (lists ws) c.args.rank [])) (sym c.deref_mut-2.ensures.value)
    (stands inside.stride (lists inside.table.items) inside.slots.items inside.staging.items c.args.self.now c.args.rank c.args.element
    (ap (λ (p : Panes). p.panes) c.self.view_is) c.requires.rank c.requires.element).element

pub put_slot-requires-clause-small : goal.put_slot-requires-clause-small
put_slot-requires-clause-small c =
    let inside = c.self.inside in
    let last = last_free inside.stride (entries (lists inside.table.items)) inside.slots.items inside.staging.items inside.free.items
    c.pop.new.self.items c.in-Some.slot c.self.invariant.0 c.in-Some.ensures.items in
    omega (arith, last.0, c.self.invariant.2)

stands_here : (c : goal.After-self-3-1) → Stands c.self.inside.stride (lists c.self.inside.table.items) c.self.inside.slots.items c.self.inside.staging.items c.args.self.now c.args.rank c.args.element
stands_here c = stands c.self.inside.stride (lists c.self.inside.table.items) c.self.inside.slots.items c.self.inside.staging.items
    c.args.self.now c.args.rank c.args.element (ap (λ (p : Panes). p.panes) c.self.view_is) c.requires.rank c.requires.element

table_is : (c : goal.After-self-3-1) → entries (lists (with_items c.self.inside.table c.put_slot.new.table).items) ≡ with_entry c.args.rank
    c.args.element (Some c.in-Some.slot) (entries (lists c.self.inside.table.items))
table_is c =
    ap (λ (ws : Rows). entries (lists ws)) (refilled c.self.inside.table c.put_slot.new.table (c.put_slot.auto.table ∙ ap length c.deref_mut-2.ensures.value))
    ∙ c.put_slot.ensures
    ∙ ap (λ (ws : Rows). with_entry c.args.rank c.args.element (Some c.in-Some.slot) (entries (lists ws))) c.deref_mut-2.ensures.value

staging_length : (c : goal.After-self-3-1) → length c.hold_at-held.new.staging ≡ length c.self.inside.staging.items
staging_length c = c.hold_at-held.auto.staging ∙ ap length c.deref_mut.ensures.value

free_is : (c : goal.After-self-3-1) → c.self.inside.free.items ≡ c.pop.new.self.items ++ c.in-Some.slot ∷ []
free_is c = c.in-Some.ensures.items

slot_is : (c : goal.After-self-3-1) → Slot
slot_is c = record { item = c.args.item; rank = c.args.rank; element = c.args.element; held = c.hold_at-held.result }

pub invariant_of-self : goal.invariant_of-self
unfolding slot_is
invariant_of-self c =
    let inside = c.self.inside in
    let here = stands_here c in
    let tied : Tied inside.stride (with_entry c.args.rank c.args.element (Some c.in-Some.slot) (entries (lists inside.table.items)))
    (set inside.slots.items c.in-Some.slot (slot_is c)) c.hold_at-held.new.staging c.pop.new.self.items =
    tied_opened inside.stride (entries (lists inside.table.items)) inside.slots.items inside.staging.items c.hold_at-held.new.staging
    inside.free.items c.pop.new.self.items c.args.rank c.args.element c.in-Some.slot (slot_is c)
    c.self.invariant.0 here.in_entries here.in_row (free_is c) refl refl c.hold_at-held.ensures.«open» c.hold_at-held.ensures.fits (staging_length c) in
    let same : length (set inside.slots.items c.in-Some.slot (slot_is c)) ≡ length inside.slots.items = length-set inside.slots.items c.in-Some.slot (slot_is c) in (
      subst (λ (t : Table). Tied inside.stride t (set inside.slots.items c.in-Some.slot (slot_is c))
          (with_items inside.staging c.hold_at-held.new.staging).items c.pop.new.self.items) (sym (table_is c))
          (subst (λ (s : List ℤ). Tied inside.stride
          (with_entry c.args.rank c.args.element (Some c.in-Some.slot) (entries (lists inside.table.items)))
          (set inside.slots.items c.in-Some.slot (slot_is c)) s c.pop.new.self.items)
          (sym (refilled inside.staging c.hold_at-held.new.staging (staging_length c))) tied),
      omega (arith, c.pop.ensures.capacity, c.self.invariant.1),
      omega (arith, same, c.self.invariant.2),
    )

panes_is : (c : goal.After-self-3-1) →
    panes_in c.self.inside.stride (entries (lists (with_items c.self.inside.table c.put_slot.new.table).items))
    (set c.self.inside.slots.items c.in-Some.slot (slot_is c)) (with_items c.self.inside.staging c.hold_at-held.new.staging).items
    ≡ with_pane c.args.rank c.args.element (pane_after {F = KernelFault} c.args.item (Leaves c.args.cells.now))
    (panes_in c.self.inside.stride (entries (lists c.self.inside.table.items)) c.self.inside.slots.items c.self.inside.staging.items)
unfolding slot_is
panes_is c =
    let inside = c.self.inside in
    let last = last_free inside.stride (entries (lists inside.table.items)) inside.slots.items inside.staging.items inside.free.items
    c.pop.new.self.items c.in-Some.slot c.self.invariant.0 (free_is c) in
    ap₂ (λ t s. panes_in inside.stride t (set inside.slots.items c.in-Some.slot (slot_is c)) s) (table_is c) (refilled inside.staging c.hold_at-held.new.staging (staging_length c))
    ∙ opened_panes inside.stride (entries (lists inside.table.items)) inside.slots.items inside.staging.items c.hold_at-held.new.staging
    inside.free.items c.args.rank c.args.element c.in-Some.slot (slot_is c)
    c.self.invariant.0 (stands_here c).in_entries last.0 last.1
    (λ b n h. c.hold_at-held.ensures.others b n h ∙ ap (cells_at b n) c.deref_mut.ensures.value)
    ∙ ap (λ q. with_pane c.args.rank c.args.element q (panes_in inside.stride (entries (lists inside.table.items)) inside.slots.items inside.staging.items)) (c.hold_at-held.ensures.pane c.args.item)

pub returns : goal.returns
unfolding slot_is
returns c =
    let inside = c.self.inside in
    let n : vec_len c.pop.new.self ≡ vec_len inside.free - 1 = omega (arith, c.in-Some.ensures.len) in
    subst (λ (p : Panes). of_parts (panes_in inside.stride (entries (lists (with_items inside.table c.put_slot.new.table).items))
    (set inside.slots.items c.in-Some.slot (slot_is c)) (with_items inside.staging c.hold_at-held.new.staging).items)
    (vec_len c.pop.new.self) inside.stride ≡ opened {F = KernelFault} c.args.item c.args.rank c.args.element (Leaves c.args.cells.now)
    (p.left - 1) p) c.self.view_is
    (ap₂ (λ ps l. of_parts ps l inside.stride) (panes_is c) n)
