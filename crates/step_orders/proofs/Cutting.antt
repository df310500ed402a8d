-- One more place at which a list is cut, and one more element of the piece that is begun.
use Rattle.std.proofs.Common.{◌≡◌, ℕ, zero, suc, ◌<◌, ◌≤◌, ◌+◌, ◌-◌, refl, sym, ap, ◌∙◌, arith, Bool, true, false, cond, List, [], ◌∷◌, ◌++◌, append-nil, length, take, drop, get_or}
use Rattle.std.specs.Prelude.{◌&&◌, nat_lt}
use Rattle.std.proofs.lemmas.List.{append_assoc, length-drop, drop_more, take_more, drop_all, get_or-drop, get_or-take, length-take}
use Rattle.step_orders.specs.Runs.{cut, start_of, AreEnds}
use Rattle.step_orders.specs.ElementRuns.{unless_empty}
use Rattle.step_orders.specs.Pieces.{goes_on, pieces_from, IsCut}

start_past : (from e : ℕ) (es : List ℕ) (n : ℕ) → start_of from (e ∷ es) (suc n) ≡ start_of e es n
start_past from e es zero = refl
start_past from e es (suc n) = refl

cut_push : (from : ℕ) (xs es : List ℕ) (e : ℕ) → cut from xs (es ++ (e ∷ [])) ≡ cut from xs es ++ (take (e - start_of from es (length es)) (drop (start_of from es (length es)) xs) ∷ [])
cut_push from xs [] e = refl
cut_push from xs (d ∷ es) e =
    ap (λ z. take (d - from) (drop from xs) ∷ z) (cut_push d xs es e)
    ∙ ap (λ z. take (d - from) (drop from xs) ∷ (cut d xs es ++ (take (e - z) (drop z xs) ∷ []))) (sym (start_past from d es (length es)))

ends_push : (from : ℕ) (xs es : List ℕ) (e : ℕ) → AreEnds from xs es → start_of from es (length es) ≤ e → e ≤ length xs → AreEnds from xs (es ++ (e ∷ []))
ends_push from xs [] e h le within = (le, within, tt)
ends_push from xs (d ∷ es) e h le within = (h.0, h.1, ends_push d xs es e h.2 (rw (← start_past from d es (length es)) le) within)

start_push : (from : ℕ) (es : List ℕ) (e : ℕ) → start_of from (es ++ (e ∷ [])) (length (es ++ (e ∷ []))) ≡ e
start_push from [] e = refl
start_push from (d ∷ es) e = start_past from d (es ++ (e ∷ [])) (length (es ++ (e ∷ []))) ∙ start_push d es e

piece_on : (xs : List ℕ) (start at : ℕ) → start ≤ at → at < length xs
    → take (at - start) (drop start xs) ++ (get_or xs at 0 ∷ []) ≡ take (at + 1 - start) (drop start xs)
piece_on xs start at le lt =
    let e : at + 1 - start ≡ at - start + 1 = omega arith in
    let i : start + (at - start) ≡ at = omega arith in
    sym (ap (λ n. take n (drop start xs)) e
    ∙ (take_more (drop start xs) (at - start) 0 (omega (arith, length-drop start xs))
    ∙ ap (λ z. take (at - start) (drop start xs) ++ (z ∷ [])) (get_or-drop start xs (at - start) 0 ∙ ap (λ n. get_or xs n 0) i)))

module _ (t : ℕ → ℕ → Bool) (g : ℕ) (xs : List ℕ) where
  -- the piece goes on
  pub cut_on : (es : List ℕ) (start at : ℕ) → IsCut t g xs es start at → at < length xs
      → goes_on t g (take (at - start) (drop start xs)) (get_or xs at 0) ≡ true
      → IsCut t g xs es start (at + 1)
  cut_on es start at h lt e =
      let le : start ≤ at = h.order in
      let piece : List ℕ = take (at - start) (drop start xs) in
      record {
        begun = h.begun;
        order = omega arith;
        ends = h.ends;
        left =
            ap (λ z. cut 0 xs es ++ pieces_from t g z (drop (at + 1) xs)) (sym (piece_on xs start at le lt))
            ∙ (ap (λ b. cut 0 xs es ++ cond b (pieces_from t g (piece ++ (get_or xs at 0 ∷ [])) (drop (at + 1) xs)) (piece ∷ pieces_from t g (get_or xs at 0 ∷ []) (drop (at + 1) xs))) (sym e)
            ∙ (ap (λ z. cut 0 xs es ++ pieces_from t g piece z) (sym (drop_more xs at 0 lt)) ∙ h.left));
      }

  -- the next piece begins
  pub cut_next : (es : List ℕ) (start at : ℕ) → IsCut t g xs es start at → at < length xs
      → goes_on t g (take (at - start) (drop start xs)) (get_or xs at 0) ≡ false
      → IsCut t g xs (es ++ (at ∷ [])) at (at + 1)
  cut_next es start at h lt e =
      let le : start ≤ at = h.order in
      let none : at - at ≡ 0 = omega arith in
      let piece : List ℕ = take (at - start) (drop start xs) in
      let one : take (at + 1 - at) (drop at xs) ≡ get_or xs at 0 ∷ [] =
      sym (piece_on xs at at (omega arith) lt) ∙ ap (λ n. take n (drop at xs) ++ (get_or xs at 0 ∷ [])) none in
      let last : cut 0 xs (es ++ (at ∷ [])) ≡ cut 0 xs es ++ (piece ∷ []) =
      cut_push 0 xs es at ∙ ap (λ n. cut 0 xs es ++ (take (at - n) (drop n xs) ∷ [])) (sym h.begun) in
      record {
        begun = sym (start_push 0 es at);
        order = omega arith;
        ends = ends_push 0 xs es at h.ends (rw (← h.begun) le) (omega arith);
        left =
            ap (λ z. z ++ pieces_from t g (take (at + 1 - at) (drop at xs)) (drop (at + 1) xs)) last
            ∙ (ap (λ z. (cut 0 xs es ++ (piece ∷ [])) ++ pieces_from t g z (drop (at + 1) xs)) one
            ∙ (append_assoc (cut 0 xs es) (piece ∷ []) (pieces_from t g (get_or xs at 0 ∷ []) (drop (at + 1) xs))
            ∙ (ap (λ b. cut 0 xs es ++ cond b (pieces_from t g (piece ++ (get_or xs at 0 ∷ [])) (drop (at + 1) xs)) (piece ∷ pieces_from t g (get_or xs at 0 ∷ []) (drop (at + 1) xs))) (sym e)
            ∙ (ap (λ z. cut 0 xs es ++ pieces_from t g piece z) (sym (drop_more xs at 0 lt)) ∙ h.left))));
      }

  -- at the end of the list
  at_end : (es : List ℕ) (start at : ℕ) → IsCut t g xs es start at → at ≡ length xs
      → cut 0 xs es ++ unless_empty (take (length xs - start) (drop start xs)) ≡ pieces_from t g [] xs
  at_end es start at h e =
      ap (λ n. cut 0 xs es ++ unless_empty (take (n - start) (drop start xs))) (sym e)
      ∙ (ap (λ z. cut 0 xs es ++ pieces_from t g (take (at - start) (drop start xs)) z) (sym (drop_all at xs (omega arith))) ∙ h.left)

  -- a piece is left
  pub cut_last : (es : List ℕ) (start at : ℕ) → IsCut t g xs es start at → at ≡ length xs → start < length xs
      → cut 0 xs (es ++ (length xs ∷ [])) ≡ pieces_from t g [] xs
  cut_last es start at h e lt =
      cut_push 0 xs es (length xs)
      ∙ (ap (λ n. cut 0 xs es ++ (take (length xs - n) (drop n xs) ∷ [])) (sym h.begun)
      ∙ (ap (λ z. cut 0 xs es ++ z) (sym (some (take (length xs - start) (drop start xs)) (omega (arith, length-take (length xs - start) (drop start xs), length-drop start xs))))
      ∙ at_end es start at h e))
    where
      some : (l : List ℕ) → 0 < length l → unless_empty l ≡ l ∷ []
      some [] lt = absurd (omega arith)
      some (x ∷ l) lt = refl

  pub last_ends : (es : List ℕ) (start at : ℕ) → IsCut t g xs es start at → at ≡ length xs → AreEnds 0 xs (es ++ (length xs ∷ []))
  last_ends es start at h e =
      let le : start ≤ at = h.order in
      let within : start ≤ length xs = omega arith in
      ends_push 0 xs es (length xs) h.ends (rw (← h.begun) within) (omega arith)

  -- none is left
  pub cut_all : (es : List ℕ) (start at : ℕ) → IsCut t g xs es start at → at ≡ length xs → length xs ≤ start
      → cut 0 xs es ≡ pieces_from t g [] xs
  cut_all es start at h e le =
      sym (append-nil (cut 0 xs es))
      ∙ (ap (λ z. cut 0 xs es ++ z) (sym (none (take (length xs - start) (drop start xs)) (omega (arith, length-take (length xs - start) (drop start xs), length-drop start xs))))
      ∙ at_end es start at h e)
    where
      none : (l : List ℕ) → length l ≡ 0 → unless_empty l ≡ []
      none [] e = refl
      none (x ∷ l) e = absurd (omega arith)

-- whether a piece that is begun goes on
pub goes_on_is : (t : ℕ → ℕ → Bool) (g : ℕ) (xs : List ℕ) (start at x : ℕ) → start < at → at < length xs
    → goes_on t g (take (at - start) (drop start xs)) x ≡ (nat_lt (at - start) g && t (get_or xs start 0) x)
goes_on_is t g xs start at x order within =
    some (take (at - start) (drop start xs)) (omega (arith, size))
    ∙ (ap (λ n. nat_lt n g && t (get_or (take (at - start) (drop start xs)) 0 0) x) size
    ∙ ap (λ y. nat_lt (at - start) g && t y x) (get_or-take (at - start) (drop start xs) 0 0 (omega arith) ∙ (get_or-drop start xs 0 0 ∙ ap (λ n. get_or xs n 0) here)))
  where
    here : start + 0 ≡ start
    here = omega arith

    size : length (take (at - start) (drop start xs)) ≡ at - start
    size = omega (arith, length-take (at - start) (drop start xs), length-drop start xs)

    some : (l : List ℕ) → 0 < length l → goes_on t g l x ≡ (nat_lt (length l) g && t (get_or l 0 0) x)
    some [] lt = absurd (omega arith)
    some (y ∷ l) lt = refl
