-- The cells of a buffer of dats with those of variables behind them.
use Rattle.std.proofs.Common.{◌≡◌, ◌<◌, ◌≤◌, ◌+◌, ◌-◌, ℕ, zero, suc, Bool, true, List, [], ◌∷◌, ◌++◌, length, get_or, drop, refl, sym, ap, ap₂, ◌∙◌, ⊎_elim, arith}
use Rattle.std.specs.Prelude.{nat_lt, if◌then◌else◌}
use Rattle.std.proofs.lemmas.Bool.{cases_lt, lt-ltb, le-ltb}
use Rattle.schedule_model.specs.Cells.{Cell, Data, DatCell}
use Rattle.run_model.specs.OnWindows.{no_cell}
use Rattle.rank_state.specs.declared.spans.Span.{Span}
use Rattle.rank_state.specs.declared.scalars.Scalar.{Scalar}
use Rattle.rank_state.specs.Spans.{Within}
use Rattle.rank_state.specs.Windows.{cells_from, span_cells, Marked}
use Rattle.rank_program.proofs.Tails.{scalar_spans}

-- so many cells from an index on
abbrev pub run_cells : (ℕ → Cell) → ℕ → ℕ → List Cell
run_cells cell at zero = []
run_cells cell at (suc n) = cell at ∷ run_cells cell (suc at) n

-- the cells that spans gather
abbrev pub buffer_cells : (ℕ → Cell) → List Span → List Cell
buffer_cells cell [] = []
buffer_cells cell (s ∷ ss) = run_cells cell s.at s.dim ++ buffer_cells cell ss

-- the buffer's cells: those of dats below the width, and others behind them
abbrev pub buffer_cell : ℕ → (ℕ → DatCell) → List Cell → ℕ → Cell
buffer_cell width cell_at vs i = if nat_lt i width then Data (cell_at i) else get_or vs (i - width) no_cell

pub within_append : (n : ℕ) (ss ts : List Span) → Within n ss → Within n ts → Within n (ss ++ ts)
within_append n [] ts h g = g
within_append n (s ∷ ss) ts h g = (h.0, within_append n ss ts h.1 g)

pub within_more : (n m : ℕ) (ss : List Span) → n ≤ m → Within n ss → Within m ss
within_more n m [] le h = tt
within_more n m (s ∷ ss) le h = (let fits = h.0 in omega (arith, le, fits), within_more n m ss le h.1)

pub scalars_within : (at n : ℕ) (xs : List Scalar) → at + length xs ≤ n → Within n (scalar_spans at xs)
scalars_within at n [] le = tt
scalars_within at n (x ∷ xs) le = (omega (arith, le), scalars_within (suc at) n xs (omega (arith, le)))

pub marked_append : (taken : ℕ → Bool) (ss ts : List Span) → Marked taken ss → Marked taken ts → Marked taken (ss ++ ts)
marked_append taken [] ts h g = g
marked_append taken (s ∷ ss) ts h g = (h.0, marked_append taken ss ts h.1 g)

pub scalars_marked : (taken : ℕ → Bool) (at : ℕ) (xs : List Scalar) → ((i : ℕ) → at ≤ i → i < at + length xs → taken i ≡ true) → Marked taken (scalar_spans at xs)
scalars_marked taken at [] h = tt
scalars_marked taken at (x ∷ xs) h =
    (λ j lt. h (at + j) (omega arith) (omega (arith, lt)), scalars_marked taken (suc at) xs (λ i le lt. h i (omega (arith, le)) (omega (arith, lt))))

pub buffer_append : (cell : ℕ → Cell) (ss ts : List Span) → buffer_cells cell (ss ++ ts) ≡ buffer_cells cell ss ++ buffer_cells cell ts
buffer_append cell [] ts = refl
buffer_append cell (s ∷ ss) ts =
    ap (λ z. run_cells cell s.at s.dim ++ z) (buffer_append cell ss ts) ∙ sym (Rattle.std.proofs.lemmas.List.append_assoc (run_cells cell s.at s.dim) (buffer_cells cell ss) (buffer_cells cell ts))

module _ (width : ℕ) (cell_at : ℕ → DatCell) (vs : List Cell) where
  abbrev cell : ℕ → Cell
  cell = buffer_cell width cell_at vs

  pub in_front : (i : ℕ) → i < width → cell i ≡ Data (cell_at i)
  in_front i lt = ap (λ b. if b then Data (cell_at i) else get_or vs (i - width) no_cell) (lt-ltb i width lt)

  pub in_tail : (i : ℕ) → width ≤ i → cell i ≡ get_or vs (i - width) no_cell
  in_tail i le = ap (λ b. if b then Data (cell_at i) else get_or vs (i - width) no_cell) (le-ltb i width le)

  run_is : (at n : ℕ) → at + n ≤ width → run_cells cell at n ≡ cells_from cell_at at n
  run_is at zero le = refl
  run_is at (suc n) le = ap₂ (λ c cs. c ∷ cs) (in_front at (omega (arith, le))) (run_is (suc at) n (omega (arith, le)))

  pub spans_are : (ss : List Span) → Within width ss → buffer_cells cell ss ≡ span_cells cell_at ss
  spans_are [] h = refl
  spans_are (s ∷ ss) h = ap₂ (λ a b. a ++ b) (run_is s.at s.dim h.0) (spans_are ss h.1)

  drop_one : (us : List Cell) (k : ℕ) → k < length us → drop k us ≡ get_or us k no_cell ∷ drop (suc k) us
  drop_one [] k lt = absurd (omega arith)
  drop_one (u ∷ us) zero lt = refl
  drop_one (u ∷ us) (suc k) lt = drop_one us k (omega (arith, lt))

  drop_none : (us : List Cell) (k : ℕ) → k ≡ length us → drop k us ≡ []
  drop_none [] zero e = refl
  drop_none [] (suc k) e = absurd (omega (arith, e))
  drop_none (u ∷ us) zero e = absurd (omega (arith, e))
  drop_none (u ∷ us) (suc k) e = drop_none us k (omega (arith, e))

  tail_from : (k at : ℕ) (xs : List Scalar) → at ≡ width + k → k + length xs ≡ length vs → buffer_cells cell (scalar_spans at xs) ≡ drop k vs
  tail_from k at [] e n = sym (drop_none vs k (omega (arith, n)))
  tail_from k at (x ∷ xs) e n =
      let step : at - width ≡ k = omega (arith, e) in
      ap₂ (λ c cs. c ∷ cs) (in_tail at (omega (arith, e)) ∙ ap (λ i. get_or vs i no_cell) step) (tail_from (suc k) (suc at) xs (omega (arith, e)) (omega (arith, n)))
      ∙ sym (drop_one vs k (omega (arith, n)))

  pub tail_is : (xs : List Scalar) → length xs ≡ length vs → buffer_cells cell (scalar_spans width xs) ≡ vs
  tail_is xs n = tail_from 0 width xs (omega arith) (omega (arith, n))

  -- two indices of one cell are one
  pub one_index : (place : DatCell → ℕ) → ((i : ℕ) → i < width → place (cell_at i) ≡ i)
      → ((i j : ℕ) → i < length vs → j < length vs → get_or vs i no_cell ≡ get_or vs j no_cell → i ≡ j)
      → ((k : ℕ) → k < length vs → (c : DatCell) → get_or vs k no_cell ≡ Data c → ⊥)
      → (i j : ℕ) → i < width + length vs → j < width + length vs → cell i ≡ cell j → i ≡ j
  one_index place there once apart i j li lj same =
      ⊎_elim
      (λ (fi : i < width). ⊎_elim
      (λ (fj : j < width). data_one (cell_at i) (cell_at j) (sym (in_front i fi) ∙ same ∙ in_front j fj) (there i fi) (there j fj))
      (λ (bj : width ≤ j). absurd (apart (j - width) (omega (arith, lj, bj)) (cell_at i) (sym (in_tail j bj) ∙ sym same ∙ in_front i fi)))
      (cases_lt j width))
      (λ (bi : width ≤ i). ⊎_elim
      (λ (fj : j < width). absurd (apart (i - width) (omega (arith, li, bi)) (cell_at j) (sym (in_tail i bi) ∙ same ∙ in_front j fj)))
      (λ (bj : width ≤ j). (let e = once (i - width) (j - width) (omega (arith, li, bi)) (omega (arith, lj, bj)) (sym (in_tail i bi) ∙ same ∙ in_tail j bj) in omega (arith, e, bi, bj)))
      (cases_lt j width))
      (cases_lt i width)
    where
      data_one : (c d : DatCell) → Data c ≡ Data d → place c ≡ i → place d ≡ j → i ≡ j
      data_one c d h p q = let e : c ≡ d = cc in sym p ∙ ap place e ∙ q
