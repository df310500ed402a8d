-- What was reached so far, each once, with one thing more.
use Rattle.std.proofs.Common.{◌≡◌, ◌≤◌, ◌+◌, ℕ, Bool, true, false, ◌||◌, List, [], ◌∷◌, ◌++◌, length, flat_map, refl, sym, ap, ◌∙◌, ◌⊎◌, inl, inr, ⊎_elim, arith, length-append}
use Rattle.std.specs.Prelude.{if◌then◌else◌}
use Rattle.std.proofs.lemmas.Bool.{cases_Bool, false≢true, or_cases, or_parts, or_left, or_right, false_from_ne_true}
use Rattle.std.proofs.lemmas.List.{append-nil}
use Rattle.std.proofs.lemmas.List.FromFn.{length-map-range_with_len}
use Rattle.bound_program.specs.Values.{BoundValue}
use Rattle.run_model.specs.Windows.{Reached, is_same, without, different, width, cell_in, cells_in, window_start}
use Rattle.run_model.proofs.Public.{same_true, same_refl, not_same}
use Rattle.rank_layout.specs.Seen.{has}

apart_by : (r q : Reached) (c : Bool) → is_same r q ≡ c → (r ≡ q → ⊥) → is_same r q ≡ false
apart_by r q true t never = absurd (never (same_true r q t))
apart_by r q false t never = t

pub same_sym : (r q : Reached) → is_same r q ≡ is_same q r
same_sym r q = ⊎_elim
    (λ (t : is_same r q ≡ true). t ∙ sym (ap (λ z. is_same q z) (same_true r q t) ∙ same_refl q))
    (λ (t : is_same r q ≡ false). t ∙ sym (apart_by q r (is_same q r) refl (λ e. not_same r q t (sym e))))
    (cases_Bool (is_same r q))

-- ---- one thing more

append_if : (c : Bool) (x : Reached) (xs ys : List Reached) → (if c then xs ++ ys else x ∷ (xs ++ ys)) ≡ (if c then xs else x ∷ xs) ++ ys
append_if true x xs ys = refl
append_if false x xs ys = refl

without_append : (r : Reached) (xs ys : List Reached) → without r (xs ++ ys) ≡ without r xs ++ without r ys
without_append r [] ys = refl
without_append r (x ∷ xs) ys =
    ap (λ z. if is_same x r then z else x ∷ z) (without_append r xs ys) ∙ append_if (is_same x r) x (without r xs) (without r ys)

one_without : (x y : Reached) → without x (y ∷ []) ≡ (if is_same x y then [] else y ∷ [])
one_without x y = ap (λ c. if c then [] else y ∷ []) (same_sym y x)

by_had : (h s : Bool) (x y : Reached) (all : List Reached) → without x (y ∷ []) ≡ (if s then [] else y ∷ [])
    → x ∷ without x (if h then all else all ++ y ∷ []) ≡ (if s || h then x ∷ without x all else (x ∷ without x all) ++ y ∷ [])
by_had true true x y all e = refl
by_had true false x y all e = refl
by_had false true x y all e = ap (λ z. x ∷ z) (without_append x all (y ∷ []) ∙ ap (λ z. without x all ++ z) e ∙ append-nil (without x all))
by_had false false x y all e = ap (λ z. x ∷ z) (without_append x all (y ∷ []) ∙ ap (λ z. without x all ++ z) e)

pub different_more : (xs : List Reached) (y : Reached)
    → different (xs ++ y ∷ []) ≡ (if has xs y then different xs else different xs ++ y ∷ [])
different_more [] y = refl
different_more (x ∷ xs) y =
    ap (λ z. x ∷ without x z) (different_more xs y) ∙ by_had (has xs y) (is_same x y) x y (different xs) (one_without x y)

pub different_old : (xs : List Reached) (y : Reached) → has xs y ≡ true → different (xs ++ y ∷ []) ≡ different xs
different_old xs y h = different_more xs y ∙ ap (λ c. if c then different xs else different xs ++ y ∷ []) h

pub different_new : (xs : List Reached) (y : Reached) → has xs y ≡ false → different (xs ++ y ∷ []) ≡ different xs ++ y ∷ []
different_new xs y h = different_more xs y ∙ ap (λ c. if c then different xs else different xs ++ y ∷ []) h

-- what is left without x was there before
has_without : (x r : Reached) (xs : List Reached) → has (without x xs) r ≡ true → has xs r ≡ true
has_without x r [] h = h
has_without x r (y ∷ xs) h = ⊎_elim
    (λ (t : is_same y x ≡ true).
    or_right (is_same y r) (has xs r) (has_without x r xs (sym (ap (λ c. has (if c then without x xs else y ∷ without x xs) r) t) ∙ h)))
    (λ (t : is_same y x ≡ false). ⊎_elim
    (λ (s : is_same y r ≡ true). or_left (is_same y r) (has xs r) s)
    (λ (s : has (without x xs) r ≡ true). or_right (is_same y r) (has xs r) (has_without x r xs s))
    (or_cases (is_same y r) (has (without x xs) r) (sym (ap (λ c. has (if c then without x xs else y ∷ without x xs) r) t) ∙ h)))
    (cases_Bool (is_same y x))

still : (x r : Reached) (xs : List Reached) → is_same x r ≡ false → has xs r ≡ true → has (without x xs) r ≡ true
still x r [] off h = h
still x r (y ∷ xs) off h = ⊎_elim
    (λ (t : is_same y x ≡ true).
    ap (λ c. has (if c then without x xs else y ∷ without x xs) r) t
    ∙ ⊎_elim
    (λ (s : is_same y r ≡ true). absurd (not_same x r off (sym (same_true y x t) ∙ same_true y r s)))
    (λ s. still x r xs off s)
    (or_cases (is_same y r) (has xs r) h))
    (λ (t : is_same y x ≡ false).
    ap (λ c. has (if c then without x xs else y ∷ without x xs) r) t
    ∙ ⊎_elim
    (λ (s : is_same y r ≡ true). or_left (is_same y r) (has (without x xs) r) s)
    (λ s. or_right (is_same y r) (has (without x xs) r) (still x r xs off s))
    (or_cases (is_same y r) (has xs r) h))
    (cases_Bool (is_same y x))

pub has_different : (xs : List Reached) (r : Reached) → has xs r ≡ true → has (different xs) r ≡ true
has_different [] r h = h
has_different (x ∷ xs) r h = ⊎_elim
    (λ (t : is_same x r ≡ true). or_left (is_same x r) (has (without x (different xs)) r) t)
    (λ (t : is_same x r ≡ false). or_right (is_same x r) (has (without x (different xs)) r)
    (still x r (different xs) t (has_different xs r (⊎_elim (λ s. absurd (false≢true (sym t ∙ s))) (λ s. s) (or_cases (is_same x r) (has xs r) h)))))
    (cases_Bool (is_same x r))

pub has_of : (xs : List Reached) (r : Reached) → has (different xs) r ≡ true → has xs r ≡ true
has_of [] r h = h
has_of (x ∷ xs) r h = ⊎_elim
    (λ (s : is_same x r ≡ true). or_left (is_same x r) (has xs r) s)
    (λ s. or_right (is_same x r) (has xs r) (has_of xs r (has_without x r (different xs) s)))
    (or_cases (is_same x r) (has (without x (different xs)) r) h)

pub new_in_different : (xs : List Reached) (r : Reached) → has xs r ≡ false → has (different xs) r ≡ false
new_in_different xs r h = false_from_ne_true (has (different xs) r) (λ t. false≢true (sym h ∙ has_of xs r t))

pub has_append : (xs ys : List Reached) (r : Reached) → has (xs ++ ys) r ≡ (has xs r || has ys r)
has_append [] ys r = refl
has_append (x ∷ xs) ys r = ap (λ c. is_same x r || c) (has_append xs ys r) ∙ regroup (is_same x r) (has xs r) (has ys r)
  where
    regroup : (a b c : Bool) → (a || (b || c)) ≡ ((a || b) || c)
    regroup true b c = refl
    regroup false b c = refl

pub has_old : (xs : List Reached) (y r : Reached) → has xs r ≡ true → has (xs ++ y ∷ []) r ≡ true
has_old xs y r h = has_append xs (y ∷ []) r ∙ or_left (has xs r) (has (y ∷ []) r) h

pub has_last : (xs : List Reached) (y : Reached) → has (xs ++ y ∷ []) y ≡ true
has_last xs y = has_append xs (y ∷ []) y ∙ or_right (has xs y) (has (y ∷ []) y) (or_left (is_same y y) false (same_refl y))

pub old_or_last : (xs : List Reached) (y r : Reached) → has (xs ++ y ∷ []) r ≡ true → (has xs r ≡ true) ⊎ (y ≡ r)
old_or_last xs y r h = ⊎_elim
    (λ s. inl s)
    (λ s. inr (same_true y r (⊎_elim (λ t. t) (λ t. absurd (false≢true t)) (or_cases (is_same y r) false s))))
    (or_cases (has xs r) (has (y ∷ []) r) (sym (has_append xs (y ∷ []) r) ∙ h))

-- ---- where windows begin

module _ (b : BoundValue) where
  abbrev pub cells : List Reached → ℕ
  cells all = length (flat_map (cells_in b) all)

  pub long : (r : Reached) → length (cells_in b r) ≡ width b r
  long r = length-map-range_with_len (cell_in r) 0 (width b r)

  pub cells_first : (x : Reached) (xs : List Reached) → cells (x ∷ xs) ≡ width b x + cells xs
  cells_first x xs = length-append (cells_in b x) (flat_map (cells_in b) xs) ∙ ap (λ n. n + cells xs) (long x)

  pub cells_more : (xs : List Reached) (y : Reached) → cells (xs ++ y ∷ []) ≡ cells xs + width b y
  cells_more [] y = let one = cells_first y [] in omega (arith, one)
  cells_more (x ∷ xs) y =
      let more = cells_more xs y in
      let whole = cells_first x (xs ++ y ∷ []) in
      let old = cells_first x xs in
      omega (arith, more, whole, old)

  pub start_old : (xs ys : List Reached) (r : Reached) → has xs r ≡ true → window_start b (xs ++ ys) r ≡ window_start b xs r
  start_old [] ys r h = absurd (false≢true h)
  start_old (x ∷ xs) ys r h = ⊎_elim
      (λ (t : is_same x r ≡ true).
      ap (λ c. if c then 0 else width b x + window_start b (xs ++ ys) r) t ∙ sym (ap (λ c. if c then 0 else width b x + window_start b xs r) t))
      (λ (t : is_same x r ≡ false).
      ap (λ c. if c then 0 else width b x + window_start b (xs ++ ys) r) t
      ∙ ap (λ n. width b x + n) (start_old xs ys r (⊎_elim (λ s. absurd (false≢true (sym t ∙ s))) (λ s. s) (or_cases (is_same x r) (has xs r) h)))
      ∙ sym (ap (λ c. if c then 0 else width b x + window_start b xs r) t))
      (cases_Bool (is_same x r))

  pub start_new : (xs : List Reached) (y : Reached) → has xs y ≡ false → window_start b (xs ++ y ∷ []) y ≡ cells xs
  start_new [] y h = ap (λ c. if c then 0 else width b y + 0) (same_refl y)
  start_new (x ∷ xs) y h =
      let p = or_parts (is_same x y) (has xs y) h in
      ap (λ c. if c then 0 else width b x + window_start b (xs ++ y ∷ []) y) p.0
      ∙ ap (λ n. width b x + n) (start_new xs y p.1)
      ∙ sym (cells_first x xs)

  pub start_within : (xs : List Reached) (r : Reached) → has xs r ≡ true → window_start b xs r + width b r ≤ cells xs
  start_within [] r h = absurd (false≢true h)
  start_within (x ∷ xs) r h = ⊎_elim
      (λ (t : is_same x r ≡ true).
      let at : window_start b (x ∷ xs) r ≡ 0 = ap (λ c. if c then 0 else width b x + window_start b xs r) t in
      let one = cells_first x xs in
      let same : width b x ≡ width b r = ap (width b) (same_true x r t) in
      omega (arith, at, one, same))
      (λ (t : is_same x r ≡ false).
      let at : window_start b (x ∷ xs) r ≡ width b x + window_start b xs r = ap (λ c. if c then 0 else width b x + window_start b xs r) t in
      let rest = start_within xs r (⊎_elim (λ s. absurd (false≢true (sym t ∙ s))) (λ s. s) (or_cases (is_same x r) (has xs r) h)) in
      let one = cells_first x xs in
      omega (arith, at, rest, one))
      (cases_Bool (is_same x r))
