-- The pieces of elements that are gathered by a key.
use Rattle.std.proofs.Common.{◌≡◌, ℕ, zero, suc, ◌<◌, ◌≤◌, ◌+◌, ◌*◌, refl, sym, ap, ◌∙◌, arith, Bool, true, false, cond, List, [], ◌∷◌, ◌++◌, append-nil, length, take, drop}
use Rattle.std.specs.Prelude.{◌&&◌, nat_lt}
use Rattle.std.proofs.lemmas.Bool.{ltb-true, ltb-false}
use Rattle.std.proofs.lemmas.List.{append_assoc, take_all, drop_all, take-append-le, drop-append-le, drop-drop, length-append, length-drop}
use Rattle.std.proofs.Math.Nat.{suc-mul}
use Rattle.step_orders.specs.ElementRuns.{joined, unless_empty}
use Rattle.step_orders.specs.Order.{gathered}
use Rattle.step_orders.specs.Pieces.{goes_on, pieces_from}
use Rattle.step_orders.specs.Runs.{each_alone}

-- each element is such
abbrev pub Each : (ℕ → Type 0) → List ℕ → Type 0
Each P [] = Unit {0}
Each P (x ∷ xs) = P x × Each P xs

pub each_append : (P : ℕ → Type 0) (xs ys : List ℕ) → Each P xs → Each P ys → Each P (xs ++ ys)
each_append P [] ys h k = k
each_append P (x ∷ xs) ys h k = (h.0, each_append P xs ys h.1 k)

pub each_as : (P Q : ℕ → Type 0) (xs : List ℕ) → ((x : ℕ) → P x → Q x) → Each P xs → Each Q xs
each_as P Q [] f h = tt
each_as P Q (x ∷ xs) f h = (f x h.0, each_as P Q xs f h.1)

pub each_gathered : (P : ℕ → Type 0) (f : ℕ → List ℕ) (n : ℕ) → ((i : ℕ) → i < n → Each P (f i)) → Each P (gathered f n)
each_gathered P f zero h = tt
each_gathered P f (suc n) h = each_append P (gathered f n) (f n) (each_gathered P f n (λ i lt. h i (omega arith))) (h n (omega arith))

pub joined_same : (p q : ℕ → List (List ℕ)) (n : ℕ) → ((i : ℕ) → p i ≡ q i) → joined p n ≡ joined q n
joined_same p q zero e = refl
joined_same p q (suc n) e = ap (λ z. z ++ p n) (joined_same p q n e) ∙ ap (λ z. joined q n ++ z) (e n)

joined_first : (f : ℕ → List (List ℕ)) (n : ℕ) → joined f (suc n) ≡ f 0 ++ joined (λ i. f (suc i)) n
joined_first f zero = sym (append-nil (f 0))
joined_first f (suc n) =
    ap (λ z. z ++ f (suc n)) (joined_first f n)
    ∙ append_assoc (f 0) (joined (λ i. f (suc i)) n) (f (suc n))

none_or : (piece : List ℕ) → unless_empty piece ≡ unless_empty piece ++ []
none_or piece = sym (append-nil (unless_empty piece))

module _ (t : ℕ → ℕ → Bool) (g : ℕ) where
  -- no element of the one list goes with one of the other
  pub apart : (P Q : ℕ → Type 0) → ((x y : ℕ) → P x → Q y → t x y ≡ false) → (piece xs ys : List ℕ) → Each P piece → Each P xs → Each Q ys
      → pieces_from t g piece (xs ++ ys) ≡ pieces_from t g piece xs ++ pieces_from t g [] ys
  apart P Q d piece [] ys hp hx hy = first piece ys hp hy
    where
      stops : (b : Bool) (u : ℕ → Bool) → (c y : ℕ) → t c y ≡ false → (b && t c y) ≡ false
      stops true u c y e = e
      stops false u c y e = refl

      first : (piece ys : List ℕ) → Each P piece → Each Q ys → pieces_from t g piece ys ≡ unless_empty piece ++ pieces_from t g [] ys
      first [] ys hp hy = refl
      first (c ∷ cs) [] hp hy = refl
      first (c ∷ cs) (y ∷ ys) hp hy =
          ap (λ b. cond b (pieces_from t g ((c ∷ cs) ++ (y ∷ [])) ys) ((c ∷ cs) ∷ pieces_from t g (y ∷ []) ys))
          (stops (nat_lt (length (c ∷ cs)) g) (t c) c y (d c y hp.0 hy.0))
  apart P Q d piece (x ∷ xs) ys hp hx hy =
      by
      (apart P Q d (piece ++ (x ∷ [])) xs ys (each_append P piece (x ∷ []) hp (hx.0, tt)) hx.1 hy)
      (apart P Q d (x ∷ []) xs ys (hx.0, tt) hx.1 hy)
      (goes_on t g piece x)
    where
      by : pieces_from t g (piece ++ (x ∷ [])) (xs ++ ys) ≡ pieces_from t g (piece ++ (x ∷ [])) xs ++ pieces_from t g [] ys
          → pieces_from t g (x ∷ []) (xs ++ ys) ≡ pieces_from t g (x ∷ []) xs ++ pieces_from t g [] ys
          → (b : Bool) → cond b (pieces_from t g (piece ++ (x ∷ [])) (xs ++ ys)) (piece ∷ pieces_from t g (x ∷ []) (xs ++ ys))
          ≡ cond b (pieces_from t g (piece ++ (x ∷ [])) xs) (piece ∷ pieces_from t g (x ∷ []) xs) ++ pieces_from t g [] ys
      by on next true = on
      by on next false = ap (λ z. piece ∷ z) next

  -- elements with different keys don't go together: the pieces are those of each key
  pub by_keys : (P : ℕ → Type 0) (key : ℕ → ℕ) (f : ℕ → List ℕ) (F : ℕ → List (List ℕ)) (n : ℕ)
      → ((x y : ℕ) → P x → P y → (key x ≡ key y → ⊥) → t x y ≡ false)
      → ((i : ℕ) → Each (λ x. P x × (key x ≡ i)) (f i))
      → ((i : ℕ) → pieces_from t g [] (f i) ≡ F i)
      → pieces_from t g [] (gathered f n) ≡ joined F n
  by_keys P key f F zero d h e = refl
  by_keys P key f F (suc n) d h e =
      apart (λ x. P x × (key x < n)) (λ x. P x × (key x ≡ n))
      (λ x y p q. d x y p.0 q.0 (λ i. let a : key x < n = p.1 in let b : key y ≡ n = q.1 in omega arith))
      [] (gathered f n) (f n) tt
      (each_gathered (λ x. P x × (key x < n)) f n (λ i lt. each_as (λ x. P x × (key x ≡ i)) (λ x. P x × (key x < n)) (f i)
      (λ x p. (p.0, let a : key x ≡ i = p.1 in omega arith)) (h i)))
      (h n)
      ∙ (ap (λ z. z ++ pieces_from t g [] (f n)) (by_keys P key f F n d h e) ∙ ap (λ z. joined F n ++ z) (e n))

  module _ (P : ℕ → Type 0) (all : (x y : ℕ) → P x → P y → t x y ≡ true) (pos : 0 < g) where
    -- elements that go together: the piece is filled up
    filled : (piece xs : List ℕ) → length piece ≤ g → Each P piece → Each P xs
        → pieces_from t g piece xs ≡ unless_empty (take g (piece ++ xs)) ++ pieces_from t g [] (drop g (piece ++ xs))
    filled piece [] le hp hx =
        none_or piece
        ∙ (ap (λ z. unless_empty z ++ []) (sym (take_all g piece le))
        ∙ (ap (λ z. unless_empty (take g z) ++ []) (sym (append-nil piece))
        ∙ ap (λ z. unless_empty (take g (piece ++ [])) ++ pieces_from t g [] z)
        (sym (ap (λ z. drop g z) (append-nil piece) ∙ drop_all g piece le))))
    filled [] (x ∷ xs) le hp hx = filled (x ∷ []) xs pos (hx.0, tt) hx.1
    filled (c ∷ cs) (x ∷ xs) le hp hx =
        by
        (λ lt. filled ((c ∷ cs) ++ (x ∷ [])) xs (omega (arith, lt, length-append (c ∷ cs) (x ∷ []))) (each_append P (c ∷ cs) (x ∷ []) hp (hx.0, tt)) hx.1)
        (nat_lt (length (c ∷ cs)) g) refl
      where
        piece : List ℕ
        piece = c ∷ cs

        whole : List ℕ
        whole = piece ++ (x ∷ xs)

        by : (length piece < g → pieces_from t g (piece ++ (x ∷ [])) xs ≡ unless_empty (take g ((piece ++ (x ∷ [])) ++ xs)) ++ pieces_from t g [] (drop g ((piece ++ (x ∷ [])) ++ xs)))
            → (b : Bool) → nat_lt (length piece) g ≡ b
            → cond (b && t c x) (pieces_from t g (piece ++ (x ∷ [])) xs) (piece ∷ pieces_from t g (x ∷ []) xs)
            ≡ unless_empty (take g whole) ++ pieces_from t g [] (drop g whole)
        by on true e =
            let lt : length piece < g = ltb-true (length piece) g e in
            ap (λ b. cond b (pieces_from t g (piece ++ (x ∷ [])) xs) (piece ∷ pieces_from t g (x ∷ []) xs)) (all c x hp.0 hx.0)
            ∙ (on lt
            ∙ ap (λ z. unless_empty (take g z) ++ pieces_from t g [] (drop g z)) (append_assoc piece (x ∷ []) xs))
        by on false e =
            let ge : g ≤ length piece = ltb-false (length piece) g e in
            sym (ap (λ z. unless_empty z ++ pieces_from t g [] (drop g whole))
            (take-append-le g piece (x ∷ xs) ge ∙ take_all g piece le)
            ∙ ap (λ z. piece ∷ pieces_from t g [] z) (drop-append-le g piece (x ∷ xs) ge ∙ ap (λ z. z ++ (x ∷ xs)) (drop_all g piece le)))

    each_drop : (n : ℕ) (xs : List ℕ) → Each P xs → Each P (drop n xs)
    each_drop zero xs h = h
    each_drop (suc n) [] h = tt
    each_drop (suc n) (x ∷ xs) h = each_drop n xs h.1

    abbrev window : List ℕ → ℕ → List (List ℕ)
    window xs j = unless_empty (take g (drop (j * g) xs))

    -- so the pieces are cut at every g elements
    pub windows_of : (xs : List ℕ) (n : ℕ) → length xs ≤ n * g → Each P xs → pieces_from t g [] xs ≡ joined (window xs) n
    windows_of [] zero le h = refl
    windows_of (x ∷ xs) zero le h = absurd (omega arith)
    windows_of xs (suc n) le h =
        let m : suc n * g ≡ n * g + g = suc-mul n g in
        filled [] xs (omega arith) tt h
        ∙ (ap (λ z. unless_empty (take g xs) ++ z)
        (windows_of (drop g xs) n (omega (arith, length-drop g xs)) (each_drop g xs h)
        ∙ joined_same (window (drop g xs)) (λ j. window xs (suc j)) n (λ j. ap (λ z. unless_empty (take g z)) (next j)))
        ∙ (ap (λ z. unless_empty (take g z) ++ joined (λ j. window xs (suc j)) n) (sym (at_first xs)) ∙ sym (joined_first (window xs) n)))
      where
        next : (j : ℕ) → drop (j * g) (drop g xs) ≡ drop (suc j * g) xs
        next j = let m : suc j * g ≡ g + j * g = omega (arith, suc-mul j g) in drop-drop (j * g) g xs ∙ ap (λ z. drop z xs) (sym m)

        at_first : (xs : List ℕ) → drop (0 * g) xs ≡ xs
        at_first xs = let z : 0 * g ≡ 0 = omega arith in ap (λ n. drop n xs) z

-- pieces of one element each
pub pieces_alone : (t : ℕ → ℕ → Bool) (xs : List ℕ) → pieces_from t 1 [] xs ≡ each_alone xs
pieces_alone t [] = refl
pieces_alone t (x ∷ xs) = begun x xs
  where
    begun : (y : ℕ) (ys : List ℕ) → pieces_from t 1 (y ∷ []) ys ≡ each_alone (y ∷ ys)
    begun y [] = refl
    begun y (z ∷ ys) = ap (λ q. (y ∷ []) ∷ q) (begun z ys)
