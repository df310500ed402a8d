-- Frames before any is opened.
use Rattle.std.proofs.Common.{◌≡◌, ℕ, zero, suc, ℤ, ◌*◌, ◌<◌, List, [], ◌∷◌, length, map, get_or, replicate, Option, Some, None, refl, sym, ap, ap₂, ◌∙◌, arith, subst}
use Rattle.std.specs.List.{sum_by}
use Rattle.std.proofs.lemmas.List.{length-replicate}
use Rattle.std.proofs.lemmas.Grind.{common_steps}
use Rattle.rank_state.specs.declared.rank_memory.slot.Slot.{Slot}
use Rattle.rank_state.specs.Frames.{Pane, Shut}
use Rattle.rank_state.specs.Slots.{no_slot, entry, of_entry, pane_of, panes_in, fits_held, used, Tied}
use Rattle.rank_state.proofs.rank_memory.Slots.{Table}

abbrev pub none_open : List ℕ → Table
none_open shape = map (λ n. replicate n None) shape

row_none : (n x : ℕ) → get_or {A = Option ℕ} (replicate n None) x None ≡ None
row_none zero x = refl
row_none (suc n) zero = refl
row_none (suc n) (suc x) = row_none n x

entry_none : (shape : List ℕ) (r x : ℕ) → entry (none_open shape) r x ≡ None
entry_none [] r x = refl
entry_none (n ∷ shape) zero x = row_none n x
entry_none (n ∷ shape) (suc r) x = entry_none shape r x

slot_at : (n i : ℕ) → get_or (replicate n no_slot) i no_slot ≡ no_slot
slot_at zero i = refl
slot_at (suc n) zero = refl
slot_at (suc n) (suc i) = slot_at n i

none_used : (n : ℕ) → sum_by used (replicate n no_slot) ≡ 0
none_used n = grind (arith, common_steps)

row_shut : (f : ℕ → Pane) (n : ℕ) → map (of_entry f) (replicate n None) ≡ replicate n Shut
row_shut f zero = refl
row_shut f (suc n) = ap (λ ps. Shut ∷ ps) (row_shut f n)

pub all_shut : (stride : ℕ) (slots : List Slot) (staging : List ℤ) (shape : List ℕ) → panes_in stride (none_open shape) slots staging ≡ map (λ n. replicate n Shut) shape
all_shut stride slots staging [] = refl
all_shut stride slots staging (n ∷ shape) = ap₂ ◌∷◌ (row_shut (pane_of stride slots staging) n) (all_shut stride slots staging shape)

pub tied_fresh : (stride peak : ℕ) (shape : List ℕ) (staging : List ℤ) (free : List ℕ) → length staging ≡ peak * stride → length free ≡ peak
    → ((i : ℕ) → i < peak → get_or free i 0 ≡ i) → Tied stride (none_open shape) (replicate peak no_slot) staging free
tied_fresh stride peak shape staging free ls lf each =
    let n : length (replicate peak no_slot) ≡ peak = length-replicate peak no_slot in
    record {
      size = ls ∙ ap (λ m. m * stride) (sym n);
      owned = λ r x s e. let clash : Some s ≡ None = sym e ∙ entry_none shape r x in cc;
      unused = λ i lt.
          let at : get_or free i 0 ≡ i = each i (omega arith) in
          let here : get_or free i 0 < length (replicate peak no_slot) = omega arith in
          (here, ap (λ (w : Slot). w.held) (slot_at peak (get_or free i 0)));
      distinct = λ i j a b q.
          let at : get_or free i 0 ≡ i = each i (omega arith) in
          let at' : get_or free j 0 ≡ j = each j (omega arith) in
          absurd (omega arith);
      counted = let z = none_used peak in omega arith;
      fits = λ s. subst (λ (w : Slot). fits_held stride w.held) (sym (slot_at peak s)) tt;
    }
