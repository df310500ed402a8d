use Rattle.std.proofs.Common.{◌≡◌, ℕ, ℤ, ◌*◌, ◌<◌, ◌++◌, [], ◌∷◌, ◌∙◌, refl, ap, ap₂, sym, subst, arith, length, length-set, get_or, set, List, vec_len, Some, None}
use Rattle.std.specs.Vec.{with_items}
use Rattle.rank_state.specs.declared.rank_memory.slot.Slot.{Slot}
use Rattle.rank_state.specs.declared.rank_memory.slot.Held.{Held}
use Rattle.rank_state.specs.declared.rank_memory.slot.Held.TheVariants.{Nothing, Fault, Cells}
use Rattle.rank_state.specs.declared.spans.Span.{Span}
use Rattle.std.proofs.lemmas.List.{get_or_read}
use Rattle.rank_state.specs.Spans.{cells_at}
use Rattle.rank_state.specs.Frames.{Panes, Pane, Shut, pane_at, with_pane, shut, closed}
use Rattle.rank_state.specs.Slots.{Tied, no_slot, entry, entries, with_entry, panes_in, pane_of, of_entry, held_pane}
use Rattle.rank_state.proofs.rank_memory.Slots.{Table, shut_panes, tied_shut}
use Rattle.rank_state.proofs.rank_memory.Vecs.{Rows, lists, Stands, stands}
use Rattle.rank_state.proofs.rank_memory.frames.Frames.end.Goals as goal
use Rattle.lemmas.proofs.Lists.{refilled}

abbrev of_parts : List (List Pane) → ℕ → ℕ → Panes
of_parts ps l st = record { panes = ps; left = l; stride = st }

any_item : (ss : List Span) (h : Held) (k k' : ℕ) (row m : List ℤ) → closed ss (held_pane h k row) m ≡ closed ss (held_pane h k' row) m
any_item ss Nothing k k' row m = refl
any_item ss (Fault f) k k' row m = refl
any_item ss (Cells n) k k' row m = refl

pub slot_at-requires-clause-element : goal.slot_at-requires-clause-element
slot_at-requires-clause-element c =
    let inside = c.self.inside in
    subst (λ (ws : Rows). c.args.element < length (get_or (lists ws) c.args.rank [])) (sym c.deref.ensures.value)
    (stands inside.stride (lists inside.table.items) inside.slots.items inside.staging.items c.args.self.now c.args.rank c.args.element
    (ap (λ (p : Panes). p.panes) c.self.view_is) c.requires.rank c.requires.element).element

slot_is : (g : goal.After-push_reserved) → Slot
slot_is c = record { item = c.index_mut.result.now.item; rank = c.index_mut.result.now.rank; element = c.index_mut.result.now.element; held = Nothing }

stands_here : (c : goal.After-push_reserved) → Stands c.self.inside.stride (lists c.self.inside.table.items) c.self.inside.slots.items
    c.self.inside.staging.items c.args.self.now c.args.rank c.args.element
stands_here c = stands c.self.inside.stride (lists c.self.inside.table.items) c.self.inside.slots.items c.self.inside.staging.items
    c.args.self.now c.args.rank c.args.element (ap (λ (p : Panes). p.panes) c.self.view_is) c.requires.rank c.requires.element

entry_is : (c : goal.After-push_reserved) → entry (entries (lists c.self.inside.table.items)) c.args.rank c.args.element ≡ Some c.in-Some.slot
entry_is c = sym (c.in-Some.ensures ∙ ap (λ (ws : Rows). entry (entries (lists ws)) c.args.rank c.args.element) c.deref.ensures.value)

table_is : (c : goal.After-push_reserved) → entries (lists (with_items c.self.inside.table c.take_slot.new.table).items) ≡ with_entry
    c.args.rank c.args.element None (entries (lists c.self.inside.table.items))
table_is c =
    ap (λ (ws : Rows). entries (lists ws)) (refilled c.self.inside.table c.take_slot.new.table (c.take_slot.auto.table ∙ ap length c.deref_mut.ensures.value))
    ∙ c.take_slot.ensures
    ∙ ap (λ (ws : Rows). with_entry c.args.rank c.args.element None (entries (lists ws))) c.deref_mut.ensures.value

pub invariant_of-self : goal.invariant_of-self
unfolding slot_is
invariant_of-self c =
    let inside = c.self.inside in
    let tied : Tied inside.stride (with_entry c.args.rank c.args.element None (entries (lists inside.table.items)))
    (set inside.slots.items c.in-Some.slot (slot_is c)) inside.staging.items (inside.free.items ++ c.in-Some.slot ∷ []) =
    tied_shut inside.stride (entries (lists inside.table.items)) inside.slots.items inside.staging.items inside.free.items c.args.rank
    c.args.element c.in-Some.slot (slot_is c) c.self.invariant.0 (stands_here c).in_entries (stands_here c).in_row (entry_is c) refl in
    let same : length (set inside.slots.items c.in-Some.slot (slot_is c)) ≡ length inside.slots.items = length-set inside.slots.items c.in-Some.slot (slot_is c) in (
      subst (λ (t : Table). Tied inside.stride t (set inside.slots.items c.in-Some.slot (slot_is c)) inside.staging.items c.push_reserved.new.self.items) (sym (table_is c))
          (subst (λ (f : List ℕ). Tied inside.stride (with_entry c.args.rank c.args.element None (entries (lists inside.table.items)))
          (set inside.slots.items c.in-Some.slot (slot_is c)) inside.staging.items f) (sym c.push_reserved.ensures.items) tied),
      omega (arith, c.push_reserved.ensures.capacity, c.self.invariant.1),
      omega (arith, same, c.self.invariant.2),
    )

panes_is : (c : goal.After-push_reserved) →
    panes_in c.self.inside.stride (entries (lists (with_items c.self.inside.table c.take_slot.new.table).items)) (set c.self.inside.slots.items c.in-Some.slot (slot_is c)) c.self.inside.staging.items
    ≡ with_pane c.args.rank c.args.element Shut (panes_in c.self.inside.stride (entries (lists c.self.inside.table.items)) c.self.inside.slots.items c.self.inside.staging.items)
unfolding slot_is
panes_is c =
    let inside = c.self.inside in
    ap (λ t. panes_in inside.stride t (set inside.slots.items c.in-Some.slot (slot_is c)) inside.staging.items) (table_is c)
    ∙ shut_panes inside.stride (entries (lists inside.table.items)) inside.slots.items inside.staging.items inside.free.items c.args.rank
    c.args.element c.in-Some.slot (slot_is c) c.self.invariant.0 (stands_here c).in_entries (stands_here c).in_row (entry_is c)

pub returns-clause-shut : goal.returns-clause-shut
unfolding slot_is
returns-clause-shut c =
    let inside = c.self.inside in
    subst (λ (p : Panes). of_parts (panes_in inside.stride (entries (lists (with_items inside.table c.take_slot.new.table).items))
    (set inside.slots.items c.in-Some.slot (slot_is c)) inside.staging.items) (vec_len c.push_reserved.new.self) inside.stride ≡ shut
    c.args.rank c.args.element p) c.self.view_is
    (ap₂ (λ ps l. of_parts ps l inside.stride) (panes_is c) c.push_reserved.ensures.len)

pub returns-clause-memory : goal.returns-clause-memory
returns-clause-memory c =
    let inside = c.self.inside in
    let own = c.self.invariant.0.owned c.args.rank c.args.element c.in-Some.slot (entry_is c) in
    let slot : c.index.result.now ≡ get_or inside.slots.items c.in-Some.slot no_slot = get_or_read inside.slots.items c.in-Some.slot c.index.result.now own.0 c.index.ensures no_slot in
    let at = c.in-Some.slot * inside.stride in
    let pane : pane_at c.args.self.now.panes c.args.rank c.args.element ≡ pane_of inside.stride inside.slots.items inside.staging.items c.in-Some.slot =
    (stands_here c).pane ∙ ap (of_entry (pane_of inside.stride inside.slots.items inside.staging.items)) (entry_is c) in
    c.put_back.ensures
    ∙ ap (λ s. closed c.args.ending.now.spans.now (held_pane c.index.result.now.held 0 (cells_at (c.in-Some.slot * inside.stride) inside.stride s)) c.args.memory.now) c.deref-2.ensures.value
    ∙ ap (λ (w : Slot). closed c.args.ending.now.spans.now (held_pane w.held 0 (cells_at (c.in-Some.slot * inside.stride) inside.stride inside.staging.items)) c.args.memory.now) slot
    ∙ any_item c.args.ending.now.spans.now (get_or inside.slots.items c.in-Some.slot no_slot).held 0
    (get_or inside.slots.items c.in-Some.slot no_slot).item
    (cells_at (c.in-Some.slot * inside.stride) inside.stride inside.staging.items) c.args.memory.now
    ∙ ap (λ p. closed c.args.ending.now.spans.now p c.args.memory.now) (sym pane)
