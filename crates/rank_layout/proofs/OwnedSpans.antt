-- Spans in the buffers of owners for what is reached, each once.
use Rattle.std.proofs.Common.{◌≡◌, ◌<◌, ◌+◌, ℕ, suc, true, false, List, [], ◌∷◌, ◌++◌, map, flat_map, length, take, get_or, refl, sym, ap, ap₂, ◌∙◌, subst, ⊎_elim, append_assoc, length-append}
use Rattle.std.specs.Prelude.{if◌then◌else◌}
use Rattle.std.proofs.lemmas.Bool.{cases_Bool, false≢true, and_from, or_cases, or_left, or_right, eq-eqb}
use Rattle.std.proofs.lemmas.List.{append-nil, map-append, take_more}
use Rattle.schedule_model.specs.Cells.{DatCell, VarCell}
use Rattle.schedule_model.specs.Setup.{Setup}
use Rattle.schedule_model.specs.Layout.{Layout}
use Rattle.bound_program.specs.declared.sites.Arg.{Arg}
use Rattle.bound_program.specs.declared.sites.Arg.TheVariants.{Dat, Global}
use Rattle.bound_program.specs.Values.{BoundValue}
use Rattle.run_model.specs.Windows.{Reached, is_same, different, cells_in}
use Rattle.bound_plan.specs.Windows.{on_dats}
use Rattle.rank_state.specs.declared.owned.Owned.{Owned}
use Rattle.rank_state.specs.Shows.{Tables}
use Rattle.rank_state.specs.Ordered.{total_all, index_cells, owned_cells, OwnedBy}
use Rattle.rank_state.specs.Windows.{cells_from}
use Rattle.rank_layout.specs.Seen.{has}
use Rattle.rank_layout.specs.Placed.{is_dat}
use Rattle.rank_layout.specs.OwnedWindows.{begins_with, begins_among, with_owned, owned_after}
use Rattle.rank_layout.proofs.ElementWindows.{run_count}
use Rattle.run_model.proofs.Public.{same_true, same_refl}
use Rattle.rank_layout.proofs.SeenSoFar.{different_old, different_new, has_different, has_of, has_append}

begins_self : (s : Owned) → begins_with s s ≡ true
begins_self s = and_from _ _ (eq-eqb s.rank s.rank refl) (eq-eqb s.at s.at refl)

module _ (span : Reached → Owned) where
  begins_where : (qs : List Reached) (r : Reached) → has qs r ≡ true → begins_among (span r) (map span qs) ≡ true
  begins_where [] r h = h
  begins_where (q ∷ qs) r h = ⊎_elim
      (λ (t : is_same q r ≡ true). or_left _ _ (subst (λ z. begins_with (span q) (span z) ≡ true) (same_true q r t) (begins_self (span q))))
      (λ t. or_right _ _ (begins_where qs r t))
      (or_cases (is_same q r) (has qs r) h)

  of_begins : (qs : List Reached) (r : Reached) → begins_among (span r) (map span qs) ≡ true
      → (q : Reached) × (has qs q ≡ true) × (begins_with (span q) (span r) ≡ true)
  of_begins [] r h = absurd (false≢true h)
  of_begins (q ∷ qs) r h = ⊎_elim
      (λ (t : begins_with (span q) (span r) ≡ true). (q, or_left _ _ (same_refl q), t))
      (λ t. let w = of_begins qs r t in (w.0, or_right _ _ w.1, w.2))
      (or_cases (begins_with (span q) (span r)) (begins_among (span r) (map span qs)) h)

  -- one more
  with_one : (seen : List Reached) (r : Reached)
      → ((q : Reached) → has seen q ≡ true → begins_with (span q) (span r) ≡ true → q ≡ r)
      → with_owned (span r) (map span (different seen)) ≡ map span (different (seen ++ r ∷ []))
  with_one seen r apart = ⊎_elim
      (λ (t : has seen r ≡ true).
      ap (λ c. if c then map span (different seen) else map span (different seen) ++ span r ∷ []) (begins_where (different seen) r (has_different seen r t))
      ∙ sym (ap (map span) (different_old seen r t)))
      (λ (t : has seen r ≡ false).
      ap (λ c. if c then map span (different seen) else map span (different seen) ++ span r ∷ []) (by_none t)
      ∙ sym (ap (map span) (different_new seen r t) ∙ map-append span (different seen) (r ∷ [])))
      (cases_Bool (has seen r))
    where
      none : has seen r ≡ false → begins_among (span r) (map span (different seen)) ≡ true → ⊥
      none t h =
          let w = of_begins (different seen) r h in
          let q = apart w.0 (has_of seen w.0 w.1) w.2 in
          false≢true (sym t ∙ sym (ap (has seen) q) ∙ has_of seen w.0 w.1)

      by_none : has seen r ≡ false → begins_among (span r) (map span (different seen)) ≡ false
      by_none t = ⊎_elim (λ h. absurd (none t h)) (λ h. h) (cases_Bool (begins_among (span r) (map span (different seen))))

  module _ (reach : Arg → Reached) (span_by : Arg → Owned) where
    -- the spans of the arguments on dats, one after another
    pub all_owned : (xs : List Arg) (seen : List Reached)
        → ((q r : Reached) → has (seen ++ map reach (on_dats xs)) q ≡ true → has (seen ++ map reach (on_dats xs)) r ≡ true
        → begins_with (span q) (span r) ≡ true → q ≡ r)
        → ((x : Arg) → is_dat x ≡ true → span_by x ≡ span (reach x))
        → owned_after span_by xs (map span (different seen)) ≡ map span (different (seen ++ map reach (on_dats xs)))
    all_owned [] seen apart is = ap (λ z. map span (different z)) (sym (append-nil seen))
    all_owned (Global v a ∷ xs) seen apart is = all_owned xs seen apart is
    all_owned (Dat d v a ∷ xs) seen apart is =
        let r = reach (Dat d v a) in
        let rest = map reach (on_dats xs) in
        let joined : (seen ++ r ∷ []) ++ rest ≡ seen ++ (r ∷ rest) = append_assoc seen (r ∷ []) rest in
        ap (λ z. owned_after span_by xs (with_owned z (map span (different seen)))) (is (Dat d v a) refl)
        ∙ ap (owned_after span_by xs)
        (with_one seen r
        (λ q h e. apart q r (has_append seen (r ∷ rest) q ∙ or_left _ _ h) (has_append seen (r ∷ rest) r ∙ or_right _ _ (or_left _ _ (same_refl r))) e))
        ∙ all_owned xs (seen ++ r ∷ [])
        (λ q z h g e. apart q z (subst (λ l. has l q ≡ true) joined h) (subst (λ l. has l z ≡ true) joined g) e) is
        ∙ ap (λ z. map span (different z)) joined

  -- their cells are those of what is reached
  pub reached_cells : (b : BoundValue) (cell_at : ℕ → ℕ → DatCell) (qs : List Reached)
      → ((q : Reached) → has qs q ≡ true → cells_from (cell_at (span q).rank) (span q).at (span q).dim ≡ cells_in b q)
      → owned_cells cell_at (map span qs) ≡ flat_map (cells_in b) qs
  reached_cells b cell_at [] h = refl
  reached_cells b cell_at (q ∷ qs) h =
      ap₂ (λ x y. x ++ y) (h q (or_left _ _ (same_refl q))) (reached_cells b cell_at qs (λ z t. h z (or_right _ _ t)))

  -- their cells are of the ranks that own them where each one's are
  pub reached_owned : {F : Type 0} (p : Setup F) (l : Layout F) (t : Tables) (qs : List Reached)
      → ((q : Reached) → has qs q ≡ true → OwnedBy p l t (span q ∷ []))
      → OwnedBy p l t (map span qs)
  reached_owned p l t [] h = tt
  reached_owned p l t (q ∷ qs) h =
      let one = h q (or_left _ _ (same_refl q)) in
      (one.0, one.1, one.2, reached_owned p l t qs (λ z u. h z (or_right _ _ u)))

-- ---- how many cells

owned_length : (cell_at : ℕ → ℕ → DatCell) (spans : List Owned) → length (owned_cells cell_at spans) ≡ total_all spans
owned_length cell_at [] = refl
owned_length cell_at (s ∷ ss) =
    length-append (cells_from (cell_at s.rank) s.at s.dim) (owned_cells cell_at ss)
    ∙ ap₂ (λ m n. m + n) (run_count (cell_at s.rank) s.at s.dim) (owned_length cell_at ss)

index_length : (variable_at : ℕ → VarCell) (indices : List ℕ) → length (index_cells variable_at indices) ≡ length indices
index_length variable_at [] = refl
index_length variable_at (i ∷ is) = ap suc (index_length variable_at is)

pub all_length : (cell_at : ℕ → ℕ → DatCell) (variable_at : ℕ → VarCell) (spans : List Owned) (indices : List ℕ)
    → length (owned_cells cell_at spans ++ index_cells variable_at indices) ≡ total_all spans + length indices
all_length cell_at variable_at spans indices =
    length-append (owned_cells cell_at spans) (index_cells variable_at indices)
    ∙ ap₂ (λ m n. m + n) (owned_length cell_at spans) (index_length variable_at indices)

-- ---- one argument more

after_append : (span_by : Arg → Owned) (xs ys : List Arg) (spans : List Owned)
    → owned_after span_by (xs ++ ys) spans ≡ owned_after span_by ys (owned_after span_by xs spans)
after_append span_by [] ys spans = refl
after_append span_by (Dat d v a ∷ xs) ys spans = after_append span_by xs ys (with_owned (span_by (Dat d v a)) spans)
after_append span_by (Global v a ∷ xs) ys spans = after_append span_by xs ys spans

pub after_more : (span_by : Arg → Owned) (xs : List Arg) (i : ℕ) (d : Arg) (old now new : List Owned) → i < length xs
    → now ≡ owned_after span_by (take i xs) old → new ≡ owned_after span_by (get_or xs i d ∷ []) now
    → new ≡ owned_after span_by (take (i + 1) xs) old
after_more span_by xs i d old now new lt is more =
    more ∙ ap (owned_after span_by (get_or xs i d ∷ [])) is
    ∙ sym (ap (λ z. owned_after span_by z old) (take_more xs i d lt) ∙ after_append span_by (take i xs) (get_or xs i d ∷ []) old)
