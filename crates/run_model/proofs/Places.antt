-- Where the cells of different targets stand among those of all: the windows of each follow one another.
use Rattle.std.proofs.Common.{◌≡◌, ◌<◌, ◌≤◌, ◌+◌, ◌-◌, ℕ, true, false, List, [], ◌∷◌, length, get_or, flat_map, refl, sym, ap, ap₂, ◌∙◌, subst, inl, inr, ⊎_elim, arith, length-append, get_or-append-add}
use Rattle.std.proofs.lemmas.Bool.{cases_Bool, cases_lt, cond-true, cond-false}
use Rattle.std.proofs.lemmas.List.{get_or_append_left}
use Rattle.std.proofs.lemmas.List.FromFn.{length-map-range_with_len, get_or-map-range_with_len}
use Rattle.run_model.specs.OnWindows.{no_cell}
use Rattle.schedule_model.specs.Cells.{Cell}
use Rattle.bound_program.specs.Values.{BoundValue}
use Rattle.run_model.specs.Windows.{Reached, is_same, width, cell_in, cells_in, window_start}
use Rattle.run_model.proofs.Reached.{same_true, same_refl, not_same, same_holder, same_number, Member, Distinct}

module _ (b : BoundValue) where
  -- the cells of these, one after another
  abbrev pub all_cells : List Reached → List Cell
  all_cells all = flat_map (cells_in b) all

  long : (r : Reached) → length (cells_in b r) ≡ width b r
  long r = length-map-range_with_len (cell_in r) 0 (width b r)

  all_long : (x : Reached) (xs : List Reached) → length (all_cells (x ∷ xs)) ≡ width b x + length (all_cells xs)
  all_long x xs = length-append (cells_in b x) (all_cells xs) ∙ ap (λ n. n + length (all_cells xs)) (long x)

  in_own : (r : Reached) (i : ℕ) → i < width b r → get_or (cells_in b r) i no_cell ≡ cell_in r i
  in_own r i lt = get_or-map-range_with_len (cell_in r) 0 (width b r) i i no_cell lt (omega arith)

  -- where the window of the first, and of another, begins
  starts_first : (x r : Reached) (xs : List Reached) → is_same x r ≡ true → window_start b (x ∷ xs) r ≡ 0
  starts_first x r xs t = cond-true (is_same x r) 0 (width b x + window_start b xs r) t

  starts_later : (x r : Reached) (xs : List Reached) → is_same x r ≡ false → window_start b (x ∷ xs) r ≡ width b x + window_start b xs r
  starts_later x r xs t = cond-false (is_same x r) 0 (width b x + window_start b xs r) t

  in_rest : (x r : Reached) (xs : List Reached) → is_same x r ≡ false → Member (x ∷ xs) r → Member xs r
  in_rest x r xs t m = ⊎_elim (λ e. absurd (not_same x r t e)) (λ h. h) m

  pub inside : (all : List Reached) (r : Reached) (i : ℕ) → Member all r → i < width b r → window_start b all r + i < length (all_cells all)
  inside [] r i m lt = absurd m
  inside (x ∷ xs) r i m lt = ⊎_elim
      (λ (t : is_same x r ≡ true).
      let same : width b x ≡ width b r = ap (width b) (same_true x r t) in
      omega (arith, starts_first x r xs t, all_long x xs, same))
      (λ (t : is_same x r ≡ false). omega (arith, starts_later x r xs t, all_long x xs, inside xs r i (in_rest x r xs t m) lt))
      (cases_Bool (is_same x r))

  pub stands : (all : List Reached) (r : Reached) (i : ℕ) → Member all r → i < width b r → get_or (all_cells all) (window_start b all r + i) no_cell ≡ cell_in r i
  stands [] r i m lt = absurd m
  stands (x ∷ xs) r i m lt = ⊎_elim
      (λ (t : is_same x r ≡ true).
      let e : x ≡ r = same_true x r t in
      let below : i < width b x = subst (λ q. i < width b q) (sym e) lt in
      let at : window_start b (x ∷ xs) r + i ≡ i = omega (arith, starts_first x r xs t) in
      ap (λ k. get_or (all_cells (x ∷ xs)) k no_cell) at
      ∙ get_or_append_left (cells_in b x) (all_cells xs) no_cell i (omega (arith, long x))
      ∙ in_own x i below ∙ ap (λ q. cell_in q i) e)
      (λ (t : is_same x r ≡ false).
      let at : window_start b (x ∷ xs) r + i ≡ length (cells_in b x) + (window_start b xs r + i) = omega (arith, starts_later x r xs t, long x) in
      ap (λ k. get_or (all_cells (x ∷ xs)) k no_cell) at
      ∙ get_or-append-add (cells_in b x) (all_cells xs) (window_start b xs r + i) no_cell
      ∙ stands xs r i (in_rest x r xs t m) lt)
      (cases_Bool (is_same x r))

  -- the cell at j is one of a target's
  pub record At (all : List Reached) (j : ℕ) : Type 0 where
    pub target : Reached
    pub member : Member all target
    pub number : ℕ
    pub below : number < width b target
    pub place : window_start b all target + number ≡ j

  pub at_place : (all : List Reached) (j : ℕ) → Distinct all → j < length (all_cells all) → At all j
  at_place [] j d lt = absurd (omega arith)
  at_place (x ∷ xs) j d lt = ⊎_elim
      (λ (l : j < width b x). record { target = x; member = inl refl; number = j; below = l; place = omega (arith, starts_first x x xs (same_refl x)) })
      (λ (l : width b x ≤ j). later l (at_place xs (j - width b x) d.1 (omega (arith, all_long x xs))))
      (cases_lt j (width b x))
    where
      other : (w : Reached) → Member xs w → is_same x w ≡ false
      other w m = ⊎_elim (λ (t : is_same x w ≡ true). absurd (d.0 (subst (Member xs) (sym (same_true x w t)) m))) (λ (t : is_same x w ≡ false). t) (cases_Bool (is_same x w))

      later : width b x ≤ j → At xs (j - width b x) → At (x ∷ xs) j
      later l w = record {
        target = w.target;
        member = inr w.member;
        number = w.number;
        below = w.below;
        place = omega (arith, starts_later x w.target xs (other w.target w.member), w.place);
      }

  pub once : (all : List Reached) (i j : ℕ) → Distinct all → i < length (all_cells all) → j < length (all_cells all)
      → get_or (all_cells all) i no_cell ≡ get_or (all_cells all) j no_cell → i ≡ j
  once all i j d li lj e =
      let p = at_place all i d li in
      let q = at_place all j d lj in
      let same : cell_in p.target p.number ≡ cell_in q.target q.number =
      sym (stands all p.target p.number p.member p.below) ∙ ap (λ k. get_or (all_cells all) k no_cell) p.place ∙ e
      ∙ ap (λ k. get_or (all_cells all) k no_cell) (sym q.place) ∙ stands all q.target q.number q.member q.below in
      sym p.place ∙ ap₂ (λ r k. window_start b all r + k) (same_holder p.target q.target p.number q.number same) (same_number p.target q.target p.number q.number same) ∙ q.place
