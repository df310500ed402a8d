-- Places as spans.
use Rattle.std.proofs.Common.{◌≡◌, ℕ, zero, suc, ℤ, ◌+◌, ◌<◌, Bool, true, false, List, [], ◌∷◌, map, length, get_or, refl, sym, ap, subst, ◌∙◌, arith}
use Rattle.std.proofs.lemmas.Bool.{false≢true, false_from_ne_true}
use Rattle.kernel_model.specs.Meaning.{Target, target_at}
use Rattle.kernel_model.specs.declared.types.views.frame.Place.{Place}
use Rattle.kernel_model.specs.Framed.{target_of, PlacesIn}
use Rattle.rank_state.specs.declared.spans.Span.{Span}
use Rattle.rank_state.specs.Spans.{Within, total}
use Rattle.kernel_runs.specs.Standing.{stands_at, is_written, IsUnwritten}
use Rattle.kernel_runs.specs.InPlace.{NameTheSame, AreSpared}
use Rattle.kernel_runs.specs.Saving.{place_cells, place_spans, AreKept}
use Rattle.kernel_runs.proofs.in_place.Standings.{in_first, in_rest, first_written, rest_written}

pub spans_within : (n : ℕ) (ps : List Place) (ws : List Bool) → PlacesIn n ps → Within n (place_spans ps ws)
spans_within n [] ws h = tt
spans_within n (p ∷ ps) [] h = tt
spans_within n (p ∷ ps) (w ∷ ws) h = (h 0 (omega arith), spans_within n ps ws (λ a lt. h (suc a) (omega arith)))

pub spans_total : (ps : List Place) (ws : List Bool) → length ws ≡ length ps → total (place_spans ps ws) ≡ place_cells ps
spans_total [] ws e = refl
spans_total (p ∷ ps) [] e = absurd (omega arith)
spans_total (p ∷ ps) (w ∷ ws) e = ap (λ n. p.count + n) (spans_total ps ws (omega arith))

-- a place's cell is one of its span's
pub in_marks : (ps : List Place) (ws : List Bool) → length ws ≡ length ps → (a n : ℕ) → n < (target_at (map target_of ps) a).count
    → (j : ℕ) × (j < total (place_spans ps ws)) × (stands_at (place_spans ps ws) j ≡ (target_at (map target_of ps) a).from + n) × (is_written (place_spans ps ws) j ≡ get_or ws a false)
in_marks [] ws e a n lt = absurd (omega arith)
in_marks (p ∷ ps) [] e a n lt = absurd (omega arith)
in_marks (p ∷ ps) (w ∷ ws) e zero n lt =
    let s : Span = record { at = p.from; dim = p.count; writes = w } in
    let l : n < p.count + total (place_spans ps ws) = omega arith in
    (n, l, in_first s (place_spans ps ws) n lt, first_written s (place_spans ps ws) n lt)
in_marks (p ∷ ps) (w ∷ ws) e (suc a) n lt =
    let s : Span = record { at = p.from; dim = p.count; writes = w } in
    let r = in_marks ps ws (omega arith) a n lt in
    let l : p.count + r.0 < p.count + total (place_spans ps ws) = omega (arith, r.1) in
    (p.count + r.0, l, in_rest s (place_spans ps ws) r.0 ∙ r.2, rest_written s (place_spans ps ws) r.0 ∙ r.3)

-- what unmarked places have is spared, so it is kept
pub spared_are_kept : (spans : List Span) (ts : List Target) (ps : List Place) (ws : List Bool) (old new : List ℤ) → length ws ≡ length ps
    → NameTheSame spans ts (map target_of ps)
    → ((a i : ℕ) → i < (target_at ts a).count → is_written spans ((target_at ts a).from + i) ≡ true → get_or ws a false ≡ true)
    → AreSpared spans ts (map target_of ps) old new → AreKept (place_spans ps ws) old new
spared_are_kept spans ts ps ws old new e same marked spared = record {
  count = spared.count;
  cells = λ i un. spared.cells i (λ a n lt at. false_from_ne_true (is_written spans ((target_at ts a).from + n)) (λ w. written i un a n lt at w));
}
  where
    written : (i : ℕ) → IsUnwritten (place_spans ps ws) i → (a n : ℕ) → n < (target_at ts a).count
        → (target_at (map target_of ps) a).from + n ≡ i → is_written spans ((target_at ts a).from + n) ≡ true → ⊥
    written i un a n lt at w =
        let r = in_marks ps ws e a n (subst (λ c. n < c) (same.counts a) lt) in
        false≢true (sym (un r.0 r.1 (r.2 ∙ at)) ∙ r.3 ∙ marked a n lt w)
