-- Spans for what is reached, each once.
use Rattle.std.proofs.Common.{◌≡◌, ◌≤◌, ◌+◌, ℕ, suc, All, true, false, List, [], ◌∷◌, ◌++◌, map, flat_map, refl, sym, ap, ap₂, ◌∙◌, subst, ⊎_elim, arith, append_assoc}
use Rattle.std.specs.Prelude.{nat_eq, if◌then◌else◌}
use Rattle.std.proofs.lemmas.Bool.{cases_Bool, false≢true, or_cases, or_left, or_right, eq-eqb, eqb-true}
use Rattle.std.proofs.lemmas.List.{append-nil, map-append}
use Rattle.schedule_model.specs.Cells.{DatCell}
use Rattle.bound_program.specs.declared.sites.Arg.{Arg}
use Rattle.bound_program.specs.declared.sites.Arg.TheVariants.{Dat, Global}
use Rattle.bound_program.specs.Values.{BoundValue}
use Rattle.run_model.specs.Windows.{Reached, is_same, different, cells_in}
use Rattle.bound_plan.specs.Windows.{on_dats}
use Rattle.rank_state.specs.declared.spans.Span.{Span}
use Rattle.rank_state.specs.Spans.{Within}
use Rattle.rank_state.specs.Windows.{cells_from, span_cells}
use Rattle.rank_layout.specs.Seen.{has}
use Rattle.rank_layout.specs.Placed.{is_dat}
use Rattle.rank_layout.specs.DatWindows.{begins_at, with_span, spans_after}
use Rattle.run_model.proofs.Public.{same_true, same_refl}
use Rattle.rank_layout.proofs.SeenSoFar.{different_old, different_new, has_different, has_of}

module _ (span : Reached → Span) where
  begins_where : (qs : List Reached) (r : Reached) → has qs r ≡ true → begins_at (span r).at (map span qs) ≡ true
  begins_where [] r h = h
  begins_where (q ∷ qs) r h = ⊎_elim
      (λ (t : is_same q r ≡ true). or_left _ _ (eq-eqb (span q).at (span r).at (ap (λ z. (span z).at) (same_true q r t))))
      (λ t. or_right _ _ (begins_where qs r t))
      (or_cases (is_same q r) (has qs r) h)

  of_begins : (qs : List Reached) (r : Reached) → begins_at (span r).at (map span qs) ≡ true
      → (q : Reached) × (has qs q ≡ true) × ((span q).at ≡ (span r).at)
  of_begins [] r h = absurd (false≢true h)
  of_begins (q ∷ qs) r h = ⊎_elim
      (λ (t : nat_eq (span q).at (span r).at ≡ true). (q, or_left _ _ (same_refl q), eqb-true (span q).at (span r).at t))
      (λ t. let w = of_begins qs r t in (w.0, or_right _ _ w.1, w.2))
      (or_cases (nat_eq (span q).at (span r).at) (begins_at (span r).at (map span qs)) h)

  -- one more
  with_one : (seen : List Reached) (r : Reached) → ((q : Reached) → has seen q ≡ true → (span q).at ≡ (span r).at → q ≡ r)
      → with_span (span r) (map span (different seen)) ≡ map span (different (seen ++ r ∷ []))
  with_one seen r apart = ⊎_elim
      (λ (t : has seen r ≡ true).
      ap (λ c. if c then map span (different seen) else map span (different seen) ++ span r ∷ []) (begins_where (different seen) r (has_different seen r t))
      ∙ sym (ap (map span) (different_old seen r t)))
      (λ (t : has seen r ≡ false).
      ap (λ c. if c then map span (different seen) else map span (different seen) ++ span r ∷ []) (by_none t)
      ∙ sym (ap (map span) (different_new seen r t) ∙ map-append span (different seen) (r ∷ [])))
      (cases_Bool (has seen r))
    where
      none : has seen r ≡ false → begins_at (span r).at (map span (different seen)) ≡ true → ⊥
      none t h =
          let w = of_begins (different seen) r h in
          let q = apart w.0 (has_of seen w.0 w.1) w.2 in
          false≢true (sym t ∙ sym (ap (has seen) q) ∙ has_of seen w.0 w.1)

      by_none : has seen r ≡ false → begins_at (span r).at (map span (different seen)) ≡ false
      by_none t = ⊎_elim (λ h. absurd (none t h)) (λ h. h) (cases_Bool (begins_at (span r).at (map span (different seen))))

  module _ (reach : Arg → Reached) (span_by : Arg → Span) where
    -- the spans of the arguments on dats, one after another
    pub all_spans : (xs : List Arg) (seen : List Reached)
        → ((q r : Reached) → has (seen ++ map reach (on_dats xs)) q ≡ true → has (seen ++ map reach (on_dats xs)) r ≡ true → (span q).at ≡ (span r).at → q ≡ r)
        → All (λ x. is_dat x ≡ true → span_by x ≡ span (reach x)) xs
        → spans_after span_by xs (map span (different seen)) ≡ map span (different (seen ++ map reach (on_dats xs)))
    all_spans [] seen apart is = ap (λ z. map span (different z)) (sym (append-nil seen))
    all_spans (Global v a ∷ xs) seen apart is = all_spans xs seen apart (λ i x lt. is (suc i) x (omega arith))
    all_spans (Dat d v a ∷ xs) seen apart is =
        let r = reach (Dat d v a) in
        let rest = map reach (on_dats xs) in
        let joined : (seen ++ r ∷ []) ++ rest ≡ seen ++ (r ∷ rest) = append_assoc seen (r ∷ []) rest in
        ap (λ z. spans_after span_by xs (with_span z (map span (different seen)))) (is 0 (Dat d v a) (omega arith) refl)
        ∙ ap (spans_after span_by xs)
        (with_one seen r
        (λ q h e. apart q r (in_front seen (r ∷ rest) q h) (in_back seen (r ∷ rest) r (or_left _ _ (same_refl r))) e))
        ∙ all_spans xs (seen ++ r ∷ [])
        (λ q z h g e. apart q z (subst (λ l. has l q ≡ true) joined h) (subst (λ l. has l z ≡ true) joined g) e) (λ i x lt. is (suc i) x (omega arith))
        ∙ ap (λ z. map span (different z)) joined
      where
        in_front : (xs ys : List Reached) (q : Reached) → has xs q ≡ true → has (xs ++ ys) q ≡ true
        in_front [] ys q h = absurd (false≢true h)
        in_front (x ∷ xs) ys q h = ⊎_elim
            (λ (t : is_same x q ≡ true). or_left _ _ t) (λ t. or_right _ _ (in_front xs ys q t)) (or_cases (is_same x q) (has xs q) h)

        in_back : (xs ys : List Reached) (q : Reached) → has ys q ≡ true → has (xs ++ ys) q ≡ true
        in_back [] ys q h = h
        in_back (x ∷ xs) ys q h = or_right _ _ (in_back xs ys q h)

  -- their cells are those of what is reached
  pub reached_cells : (b : BoundValue) (cell_at : ℕ → DatCell) (qs : List Reached)
      → ((q : Reached) → has qs q ≡ true → cells_from cell_at (span q).at (span q).dim ≡ cells_in b q)
      → span_cells cell_at (map span qs) ≡ flat_map (cells_in b) qs
  reached_cells b cell_at [] h = refl
  reached_cells b cell_at (q ∷ qs) h =
      ap₂ (λ x y. x ++ y) (h q (or_left _ _ (same_refl q))) (reached_cells b cell_at qs (λ z t. h z (or_right _ _ t)))

  -- they stand within the buffer where each does
  pub reached_within : (n : ℕ) (qs : List Reached) → ((q : Reached) → has qs q ≡ true → (span q).at + (span q).dim ≤ n) → Within n (map span qs)
  reached_within n [] h = tt
  reached_within n (q ∷ qs) h = (h q (or_left _ _ (same_refl q)), reached_within n qs (λ z t. h z (or_right _ _ t)))
