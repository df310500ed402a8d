-- The table of entries and the slots that they name.
use Rattle.std.proofs.Common.{◌≡◌, ◌≢◌, ◌⊎◌, inl, inr, ⊎_elim, ℕ, suc, ℤ, ◌+◌, ◌*◌, ◌≤◌, ◌<◌, List, [], ◌∷◌, ◌++◌, length, map, get_or, set, Option, Some, None, refl, sym, ap, ap₂, ◌∙◌, arith, subst}
use Rattle.std.proofs.lemmas.Bool.{cases_eq}
use Rattle.std.proofs.lemmas.List.{get_or-set_same, get_or-set_other, get_or-map, map-set}
use Rattle.std.proofs.Math.ListN.{length-set}
use Rattle.std.proofs.lemmas.Grind.{common_steps}
use Rattle.rank_state.specs.declared.rank_memory.slot.Slot.{Slot}
use Rattle.rank_state.specs.declared.rank_memory.slot.Held.{Held}
use Rattle.rank_state.specs.declared.rank_memory.slot.Held.TheVariants.{Nothing, Fault, Cells}
use Rattle.rank_state.specs.Spans.{cells_at}
use Rattle.rank_state.specs.Frames.{Pane, Shut, with_pane}
use Rattle.rank_state.specs.Slots.{no_slot, held_pane, pane_of, of_entry, entry, with_entry, panes_in, fits_held, used_held, used, Tied}
use Rattle.std.specs.List.{sum_by}
use Rattle.std.proofs.lemmas.List.Sums.{sum_by-set}
use Rattle.lemmas.proofs.Numbers.{lt_or_gt}

abbrev pub Table : Type 0
Table = List (List (Option ℕ))

pub entry_same : (table : Table) (r x : ℕ) (e : Option ℕ) → r < length table → x < length (get_or table r []) → entry (with_entry r x e table) r x ≡ e
entry_same table r x e hr hx =
    ap (λ row. get_or row x None) (get_or-set_same table r (set (get_or table r []) x e) [] hr) ∙ get_or-set_same (get_or table r []) x e None hx

-- an entry of the changed table is the new one, or an old one elsewhere
pub entry_cases : (table : Table) (r x : ℕ) (e : Option ℕ) (r' x' : ℕ) → r < length table → ((r' ≡ r) × (x' ≡ x))
    ⊎ ((((r' ≡ r) × (x' ≡ x)) → ⊥) × (entry (with_entry r x e table) r' x' ≡ entry table r' x'))
entry_cases table r x e r' x' hr =
    ⊎_elim
    (λ (p : r' ≡ r). ⊎_elim
    (λ (q : x' ≡ x). inl (p, q))
    (λ (q : x' ≡ x → ⊥). inr (
      (λ h. q h.1),
      ap (λ k. entry (with_entry r x e table) k x') p
          ∙ ap (λ row. get_or row x' None) (get_or-set_same table r (set (get_or table r []) x e) [] hr)
          ∙ get_or-set_other (get_or table r []) x x' e None q
          ∙ ap (λ k. entry table k x') (sym p),
    ))
    (cases_eq x' x))
    (λ (p : r' ≡ r → ⊥). inr ((λ h. p h.0), ap (λ row. get_or row x' None) (get_or-set_other table r r' (set (get_or table r []) x e) [] p)))
    (cases_eq r' r)

map_row : (f g : Option ℕ → Pane) (row : List (Option ℕ)) → ((x : ℕ) → f (get_or row x None) ≡ g (get_or row x None)) → map f row ≡ map g row
map_row f g [] h = refl
map_row f g (e ∷ row) h = ap₂ ◌∷◌ (h 0) (map_row f g row (λ x. h (suc x)))

map_table : (f g : Option ℕ → Pane) (table : Table) → ((r x : ℕ) → f (entry table r x) ≡ g (entry table r x)) → map (map f) table ≡ map (map g) table
map_table f g [] h = refl
map_table f g (row ∷ table) h = ap₂ ◌∷◌ (map_row f g row (λ x. h 0 x)) (map_table f g table (λ r x. h (suc r) x))

map_with_entry : (f : Option ℕ → Pane) (table : Table) (r x : ℕ) (e : Option ℕ) → r < length table → map (map f) (with_entry r x e table) ≡ with_pane r x (f e) (map (map f) table)
map_with_entry f table r x e hr =
    map-set (map f) table r (set (get_or table r []) x e)
    ∙ ap (set (map (map f) table) r) (map-set f (get_or table r []) x e ∙ ap (λ row. set row x (f e)) (sym (get_or-map (map f) table r [] [] hr)))

same_entry : (f f' : ℕ → Pane) (o : Option ℕ) → ((t : ℕ) → o ≡ Some t → f' t ≡ f t) → of_entry f' o ≡ of_entry f o
same_entry f f' None h = refl
same_entry f f' (Some t) h = h t refl

pub rows_apart : (s t stride : ℕ) → t ≢ s → (t * stride + stride ≤ s * stride) ⊎ (s * stride + stride ≤ t * stride)
rows_apart s t stride h =
    ⊎_elim
    (λ (lt : t < s). inl (grind arith))
    (λ (lt : s < t). inr (grind arith))
    (lt_or_gt t s h)

-- a frame is opened in a free slot
pub opened_panes : (stride : ℕ) (table : Table) (slots : List Slot) (staging staging' : List ℤ) (free : List ℕ) (r x s : ℕ) (v : Slot)
    → Tied stride table slots staging free → r < length table
    → s < length slots → (get_or slots s no_slot).held ≡ Nothing
    → ((b n : ℕ) → (b + n ≤ s * stride) ⊎ (s * stride + stride ≤ b) → cells_at b n staging' ≡ cells_at b n staging)
    → panes_in stride (with_entry r x (Some s) table) (set slots s v) staging' ≡ with_pane r x (held_pane v.held v.item (cells_at (s * stride) stride staging')) (panes_in stride table slots staging)
opened_panes stride table slots staging staging' free r x s v tied hr hs hn others =
    let f' = of_entry (pane_of stride (set slots s v) staging') in
    let here : of_entry (pane_of stride (set slots s v) staging') (Some s) ≡ held_pane v.held v.item (cells_at (s * stride) stride staging') =
    ap (λ (w : Slot). held_pane w.held w.item (cells_at (s * stride) stride staging')) (get_or-set_same slots s v no_slot hs) in
    let other : (t : ℕ) → t ≢ s → pane_of stride (set slots s v) staging' t ≡ pane_of stride slots staging t =
    λ t ne. ap₂ (λ (w : Slot) row. held_pane w.held w.item row) (get_or-set_other slots s t v no_slot ne) (others (t * stride) stride (rows_apart s t stride ne)) in
    let rest : (r' x' : ℕ) → of_entry (pane_of stride (set slots s v) staging') (entry table r' x') ≡ of_entry (pane_of stride slots staging) (entry table r' x') =
    λ r' x'. same_entry (pane_of stride slots staging) (pane_of stride (set slots s v) staging') (entry table r' x')
    (λ t e. other t (λ q. (tied.owned r' x' t e).3 (ap (λ k. (get_or slots k no_slot).held) q ∙ hn))) in
    map_with_entry (of_entry (pane_of stride (set slots s v) staging')) table r x (Some s) hr
    ∙ ap₂ (with_pane r x) here (map_table (of_entry (pane_of stride (set slots s v) staging')) (of_entry (pane_of stride slots staging)) table rest)

-- once an entry is gone, no other names its slot
pub left_entry : (stride : ℕ) (table : Table) (slots : List Slot) (staging : List ℤ) (free : List ℕ) (r x s : ℕ)
    → Tied stride table slots staging free → r < length table → x < length (get_or table r [])
    → entry table r x ≡ Some s → (r' x' t : ℕ) → entry (with_entry r x None table) r' x' ≡ Some t → t ≢ s
left_entry stride table slots staging free r x s tied hr hx e r' x' t e' q =
    ⊎_elim
    (λ (h : (r' ≡ r) × (x' ≡ x)).
    let gone : entry (with_entry r x None table) r' x' ≡ None = ap₂ (entry (with_entry r x None table)) h.0 h.1 ∙ entry_same table r x None hr hx in
    let clash : Some t ≡ None = sym e' ∙ gone in cc)
    (λ (h : (((r' ≡ r) × (x' ≡ x)) → ⊥) × (entry (with_entry r x None table) r' x' ≡ entry table r' x')).
    let there = tied.owned r' x' t (sym h.1 ∙ e') in
    let here = tied.owned r x s e in
    h.0 (sym there.1 ∙ ap (λ k. (get_or slots k no_slot).rank) q ∙ here.1, sym there.2 ∙ ap (λ k. (get_or slots k no_slot).element) q ∙ here.2))
    (entry_cases table r x None r' x' hr)

-- a frame is shut
pub shut_panes : (stride : ℕ) (table : Table) (slots : List Slot) (staging : List ℤ) (free : List ℕ) (r x s : ℕ) (v : Slot)
    → Tied stride table slots staging free → r < length table → x < length (get_or table r [])
    → entry table r x ≡ Some s
    → panes_in stride (with_entry r x None table) (set slots s v) staging ≡ with_pane r x Shut (panes_in stride table slots staging)
shut_panes stride table slots staging free r x s v tied hr hx e =
    let other : (t : ℕ) → t ≢ s → pane_of stride (set slots s v) staging t ≡ pane_of stride slots staging t =
    λ t ne. ap (λ (w : Slot). held_pane w.held w.item (cells_at (t * stride) stride staging)) (get_or-set_other slots s t v no_slot ne) in
    let rest : (r' x' : ℕ) → of_entry (pane_of stride (set slots s v) staging) (entry (with_entry r x None table) r' x') ≡ of_entry
    (pane_of stride slots staging) (entry (with_entry r x None table) r' x') =
    λ r' x'. same_entry (pane_of stride slots staging) (pane_of stride (set slots s v) staging) (entry (with_entry r x None table) r' x')
    (λ t e'. other t (left_entry stride table slots staging free r x s tied hr hx e r' x' t e')) in
    map_table (of_entry (pane_of stride (set slots s v) staging)) (of_entry (pane_of stride slots staging)) (with_entry r x None table) rest
    ∙ map_with_entry (of_entry (pane_of stride slots staging)) table r x None hr

-- ---- the table and the slots go on naming one another

abbrev get_or_of : List ℕ → ℕ → ℕ
get_or_of l i = get_or l i 0

front_at : (free : List ℕ) (s i : ℕ) → i < length free → get_or (free ++ s ∷ []) i 0 ≡ get_or free i 0
front_at free s i h = grind (arith, common_steps)

last_at : (free : List ℕ) (s : ℕ) → get_or (free ++ s ∷ []) (length free) 0 ≡ s
last_at [] s = refl
last_at (x ∷ free) s = last_at free s

longer : (free : List ℕ) (s : ℕ) → length (free ++ s ∷ []) ≡ length free + 1
longer free s = grind (arith, common_steps)

below : (i n : ℕ) → i < n + 1 → i ≢ n → i < n
below i n h q = grind arith

used_one : (h : Held) → h ≢ Nothing → used_held h ≡ 1
used_one Nothing ne = absurd (ne refl)
used_one (Fault f) ne = refl
used_one (Cells n) ne = refl

-- one slot is replaced: what holds of it, and of the others, holds of all
each_slot : (slots : List Slot) (s : ℕ) (v : Slot) (P : Slot → Type 0) → s < length slots → P v → (t : ℕ) → (t ≢ s → P (get_or slots t no_slot)) → P (get_or (set slots s v) t no_slot)
each_slot slots s v P hs hv t others =
    ⊎_elim
    (λ (q : t ≡ s). subst P (sym (ap (λ k. get_or (set slots s v) k no_slot) q ∙ get_or-set_same slots s v no_slot hs)) hv)
    (λ (q : t ≡ s → ⊥). subst P (sym (get_or-set_other slots s t v no_slot q)) (others q))
    (cases_eq t s)

pub last_free : (stride : ℕ) (table : Table) (slots : List Slot) (staging : List ℤ) (free free' : List ℕ) (s : ℕ)
    → Tied stride table slots staging free → free ≡ free' ++ s ∷ []
    → (s < length slots) × ((get_or slots s no_slot).held ≡ Nothing) × ((i : ℕ) → i < length free' → get_or free' i 0 ≢ s)
last_free stride table slots staging free free' s tied f =
    let n : length free ≡ length free' + 1 = ap length f ∙ longer free' s in
    let at : get_or free (length free') 0 ≡ s = ap (λ l. get_or l (length free') 0) f ∙ last_at free' s in
    let u = tied.unused (length free') (omega arith) in (
      subst (λ k. k < length slots) at u.0,
      sym (ap (λ k. (get_or slots k no_slot).held) at) ∙ u.1,
      λ i lt q. tied.distinct i (length free') lt (omega arith) (ap (λ l. get_or l i 0) f ∙ front_at free' s i lt ∙ q ∙ sym at),
    )

pub tied_opened : (stride : ℕ) (table : Table) (slots : List Slot) (staging staging' : List ℤ) (free free' : List ℕ) (r x s : ℕ) (v : Slot)
    → Tied stride table slots staging free → r < length table → x < length (get_or table r [])
    → free ≡ free' ++ s ∷ [] → v.rank ≡ r → v.element ≡ x → v.held ≢ Nothing → fits_held stride v.held → length staging' ≡ length staging
    → Tied stride (with_entry r x (Some s) table) (set slots s v) staging' free'
tied_opened stride table slots staging staging' free free' r x s v tied hr hx f vr vx vh vf ls =
    let last = last_free stride table slots staging free free' s tied f in
    let n : length free ≡ length free' + 1 = ap length f ∙ longer free' s in
    let k : length (set slots s v) ≡ length slots = length-set slots s v in
    record {
      size = ls ∙ tied.size ∙ ap (λ m. m * stride) (sym k);
      owned = λ r' x' t e.
          ⊎_elim
          (λ (h : (r' ≡ r) × (x' ≡ x)).
          let some : Some s ≡ Some t = sym (entry_same table r x (Some s) hr hx) ∙ sym (ap₂ (entry (with_entry r x (Some s) table)) h.0 h.1) ∙ e in
          let same : s ≡ t = cc in
          let here : get_or (set slots s v) t no_slot ≡ v = ap (λ m. get_or (set slots s v) m no_slot) (sym same) ∙ get_or-set_same slots s v no_slot last.0 in
          let lt : t < length (set slots s v) = omega (arith, last.0) in
          (lt, ap (λ (w : Slot). w.rank) here ∙ vr ∙ sym h.0, ap (λ (w : Slot). w.element) here ∙ vx ∙ sym h.1, λ z. vh (sym (ap (λ (w : Slot). w.held) here) ∙ z)))
          (λ (h : (((r' ≡ r) × (x' ≡ x)) → ⊥) × (entry (with_entry r x (Some s) table) r' x' ≡ entry table r' x')).
          let old = tied.owned r' x' t (sym h.1 ∙ e) in
          let ne : t ≢ s = λ q. old.3 (ap (λ m. (get_or slots m no_slot).held) q ∙ last.1) in
          let w : get_or (set slots s v) t no_slot ≡ get_or slots t no_slot = get_or-set_other slots s t v no_slot ne in
          let lt : t < length (set slots s v) = omega (arith, old.0) in
          (lt, ap (λ (w : Slot). w.rank) w ∙ old.1, ap (λ (w : Slot). w.element) w ∙ old.2, λ z. old.3 (sym (ap (λ (w : Slot). w.held) w) ∙ z)))
          (entry_cases table r x (Some s) r' x' hr);
      unused = λ i lt.
          let u = tied.unused i (omega arith) in
          let e : get_or free i 0 ≡ get_or free' i 0 = ap (λ l. get_or l i 0) f ∙ front_at free' s i lt in
          let here : get_or free' i 0 < length (set slots s v) = omega (arith, u.0) in
          (here, ap (λ (w : Slot). w.held) (get_or-set_other slots s (get_or free' i 0) v no_slot (last.2 i lt)) ∙ ap (λ m. (get_or slots m no_slot).held) (sym e) ∙ u.1);
      distinct = λ i j a b q.
          tied.distinct i j a (omega arith) (ap (λ l. get_or l i 0) f ∙ front_at free' s i (omega arith) ∙ q ∙ sym (ap (λ l. get_or l j 0) f ∙ front_at free' s j b));
      counted =
          let e : sum_by used (set slots s v) + used (get_or slots s no_slot) ≡ sum_by used slots + used v = sum_by-set used slots s v no_slot last.0 in
          let one : used v ≡ 1 = used_one v.held vh in
          let none : used (get_or slots s no_slot) ≡ 0 = ap used_held last.1 in
          omega (arith, tied.counted);
      fits = λ t. each_slot slots s v (λ (w : Slot). fits_held stride w.held) last.0 vf t (λ q. tied.fits t);
    }

pub tied_shut : (stride : ℕ) (table : Table) (slots : List Slot) (staging : List ℤ) (free : List ℕ) (r x s : ℕ) (v : Slot)
    → Tied stride table slots staging free → r < length table → x < length (get_or table r [])
    → entry table r x ≡ Some s → v.held ≡ Nothing
    → Tied stride (with_entry r x None table) (set slots s v) staging (free ++ s ∷ [])
tied_shut stride table slots staging free r x s v tied hr hx e vh =
    let own = tied.owned r x s e in
    let n : length (free ++ s ∷ []) ≡ length free + 1 = longer free s in
    let k : length (set slots s v) ≡ length slots = length-set slots s v in
    let apart : (i : ℕ) → i < length free → get_or free i 0 ≢ s = λ i lt q. own.3 (sym (ap (λ m. (get_or slots m no_slot).held) q) ∙ (tied.unused i lt).1) in
    record {
      size = tied.size ∙ ap (λ m. m * stride) (sym k);
      owned = λ r' x' t e'.
          ⊎_elim
          (λ (h : (r' ≡ r) × (x' ≡ x)).
          let gone : entry (with_entry r x None table) r' x' ≡ None = ap₂ (entry (with_entry r x None table)) h.0 h.1 ∙ entry_same table r x None hr hx in
          let clash : Some t ≡ None = sym e' ∙ gone in cc)
          (λ (h : (((r' ≡ r) × (x' ≡ x)) → ⊥) × (entry (with_entry r x None table) r' x' ≡ entry table r' x')).
          let old = tied.owned r' x' t (sym h.1 ∙ e') in
          let ne : t ≢ s = left_entry stride table slots staging free r x s tied hr hx e r' x' t e' in
          let w : get_or (set slots s v) t no_slot ≡ get_or slots t no_slot = get_or-set_other slots s t v no_slot ne in
          let lt : t < length (set slots s v) = omega (arith, old.0) in
          (lt, ap (λ (w : Slot). w.rank) w ∙ old.1, ap (λ (w : Slot). w.element) w ∙ old.2, λ z. old.3 (sym (ap (λ (w : Slot). w.held) w) ∙ z)))
          (entry_cases table r x None r' x' hr);
      unused = λ i lt.
          ⊎_elim
          (λ (q : i ≡ length free).
          let at : get_or (free ++ s ∷ []) i 0 ≡ s = ap (get_or_of (free ++ s ∷ [])) q ∙ last_at free s in
          let here : get_or (free ++ s ∷ []) i 0 < length (set slots s v) = omega (arith, own.0) in
          (here, ap (λ m. (get_or (set slots s v) m no_slot).held) at ∙ ap (λ (w : Slot). w.held) (get_or-set_same slots s v no_slot own.0) ∙ vh))
          (λ (q : i ≡ length free → ⊥).
          let lo : i < length free = below i (length free) (omega arith) q in
          let at : get_or (free ++ s ∷ []) i 0 ≡ get_or free i 0 = front_at free s i lo in
          let u = tied.unused i lo in
          let here : get_or (free ++ s ∷ []) i 0 < length (set slots s v) = omega (arith, u.0) in
          (here, ap (λ m. (get_or (set slots s v) m no_slot).held) at ∙ ap (λ (w : Slot). w.held) (get_or-set_other slots s (get_or free i 0) v no_slot (apart i lo)) ∙ u.1))
          (cases_eq i (length free));
      distinct = λ i j a b q.
          let lo : i < length free = omega arith in
          ⊎_elim
          (λ (p : j ≡ length free). apart i lo (sym (front_at free s i lo) ∙ q ∙ ap (get_or_of (free ++ s ∷ [])) p ∙ last_at free s))
          (λ (p : j ≡ length free → ⊥).
          let hi : j < length free = below j (length free) (omega arith) p in
          tied.distinct i j a hi (sym (front_at free s i lo) ∙ q ∙ front_at free s j hi))
          (cases_eq j (length free));
      counted =
          let e : sum_by used (set slots s v) + used (get_or slots s no_slot) ≡ sum_by used slots + used v = sum_by-set used slots s v no_slot own.0 in
          let one : used (get_or slots s no_slot) ≡ 1 = used_one (get_or slots s no_slot).held own.3 in
          let none : used v ≡ 0 = ap used_held vh in
          omega (arith, tied.counted);
      fits = λ t. each_slot slots s v (λ (w : Slot). fits_held stride w.held) own.0 (subst (fits_held stride) (sym vh) tt) t (λ q. tied.fits t);
    }
