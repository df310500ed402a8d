-- The loop of an Ordered item, element after element.
use Rattle.std.proofs.Common.{◌≡◌, ℕ, zero, suc, ℤ, ◌<◌, ◌≤◌, sym, ap, ap₂, subst, ◌∙◌, arith, ⊎_elim, Some, None, List, map, length}
use Rattle.std.specs.Prelude.{is_some}
use Rattle.std.proofs.lemmas.Bool.{cases_eq, cond-true, cond-false}
use Rattle.std.proofs.lemmas.List.{length-map}
use Rattle.schedule_model.specs.Program.{Ordered, is_loop, elements}
use Rattle.schedule_model.specs.Setup.{Setup}
use Rattle.schedule_model.specs.Sequential.{Stop}
use Rattle.schedule_model.specs.Layout.{Layout, Faults, Leaves, IsLayout}
use Rattle.schedule_model.specs.Flat.{Flat, variable, owned, element_flat, loop_flat}
use Rattle.rank_state.specs.declared.owned.Owned.{Owned}
use Rattle.rank_state.specs.Machine.{State}
use Rattle.rank_state.specs.Shows.{Tables, Indexed, Shows}
use Rattle.rank_state.specs.Ordered.{AreOwned, left_in, run_of}
use Rattle.rank_state.proofs.Scatters.{LookUp}
use Rattle.rank_state.proofs.Elements.{windows_owned, element_leaves}
use Rattle.rank_state.proofs.Steps.{constants_are}

module _ {F : Type 0} (p : Setup F) (l : Layout F) (t : Tables) (q : Indexed p l t) (z : IsLayout p l) (law : LookUp) (k : ℕ) (f : Flat F) where
  run_same : (st : State F) (g : Flat F) → Shows p l t st g → (e : ℕ) (spans : List Owned) (indices : List ℕ) → AreOwned p l t k e spans indices
      → run_of l t k e spans indices st ≡ l.core k e (map (variable p l g) l.constants) (map (owned p l g) (l.cells k e))
  run_same st g h e spans indices o = ap₂ (l.core k e) (constants_are p l t q st g h) (windows_owned p l t q st g h k e spans indices o)

  next : (n : ℕ) → (loop_flat p l k n f).stop ≡ None → (st : State F) → Shows p l t st (loop_flat p l k n f) → (spans : List Owned) (indices : List ℕ) → AreOwned p l t k n spans indices
      → loop_flat p l k (suc n) f ≡ element_flat p l k n (run_of l t k n spans indices st) (loop_flat p l k n f)
  next n none st h spans indices o =
      let g = loop_flat p l k n f in
      cond-false (is_some (loop_flat p l k n f).stop) (loop_flat p l k n f)
      (element_flat p l k n (l.core k n (map (variable p l (loop_flat p l k n f)) l.constants)
      (map (owned p l (loop_flat p l k n f)) (l.cells k n))) (loop_flat p l k n f)) (ap is_some none)
      ∙ ap (λ c. element_flat p l k n c (loop_flat p l k n f)) (sym (run_same st (loop_flat p l k n f) h n spans indices o))

  -- one element more
  pub goes_on : (n : ℕ) (st : State F) → Shows p l t st (loop_flat p l k n f) → p.program.kind k ≡ Ordered → n < elements p.program k
      → (spans : List Owned) (indices : List ℕ) → AreOwned p l t k n spans indices
      → (us : List ℤ) → run_of l t k n spans indices st ≡ Leaves us → Shows p l t (left_in spans indices (run_of l t k n spans indices st) st) (loop_flat p l k (suc n) f)
  goes_on n st h kind lt spans indices o us e =
      let g = loop_flat p l k n f in
      let len : length us ≡ length (l.cells k n) =
      z.same_length k n (map (variable p l (loop_flat p l k n f)) l.constants) (map (owned p l (loop_flat p l k n f)) (l.cells k n)) us
      (ap is_loop kind) lt (length-map (l.cells k n) (owned p l (loop_flat p l k n f)))
      (sym (run_same st (loop_flat p l k n f) h n spans indices o) ∙ e) in
      subst (λ c. Shows p l t (left_in spans indices c st) (loop_flat p l k (suc n) f)) (sym e)
      (subst (Shows p l t (left_in spans indices (Leaves us) st)) (sym (next n h.stop st h spans indices o ∙ ap (λ c. element_flat p l k n c (loop_flat p l k n f)) e))
      (element_leaves p l t q st (loop_flat p l k n f) h law k n spans indices o us len))

  -- an element that faults stops the loop
  pub breaks : (n : ℕ) (st : State F) → Shows p l t st (loop_flat p l k n f) → (spans : List Owned) (indices : List ℕ) → AreOwned p l t k n spans indices
      → (x : F) → run_of l t k n spans indices st ≡ Faults x → loop_flat p l k (suc n) f ≡ record (loop_flat p l k n f) { stop = Some (record { item = k; element = Some n; fault = x }) }
  breaks n st h spans indices o x e = next n h.stop st h spans indices o ∙ ap (λ c. element_flat p l k n c (loop_flat p l k n f)) e

module _ {F : Type 0} (p : Setup F) (l : Layout F) (k : ℕ) (f : Flat F) where
  -- nothing runs after a stop
  pub ended_there : (n m : ℕ) → n ≤ m → (x : Stop F) → (loop_flat p l k n f).stop ≡ Some x → loop_flat p l k m f ≡ loop_flat p l k n f
  ended_there n zero le x e = (let i : n ≡ 0 = omega arith in ap (λ j. loop_flat p l k j f) (sym i))
  ended_there n (suc m) le x e = ⊎_elim
      (λ (i : n ≡ suc m). ap (λ j. loop_flat p l k j f) (sym i))
      (λ (i : n ≡ suc m → ⊥).
      let same : loop_flat p l k m f ≡ loop_flat p l k n f = ended_there n m (omega arith) x e in
      cond-true (is_some (loop_flat p l k m f).stop) (loop_flat p l k m f)
      (element_flat p l k m (l.core k m (map (variable p l (loop_flat p l k m f)) l.constants)
      (map (owned p l (loop_flat p l k m f)) (l.cells k m))) (loop_flat p l k m f))
      (ap (λ (g : Flat F). is_some g.stop) same ∙ ap is_some e)
      ∙ same)
      (cases_eq n (suc m))
