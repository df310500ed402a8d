-- Lines that are awaited for one number after another.
use Rattle.std.proofs.Common.{◌≡◌, ℕ, ℤ, suc, zero, ◌+◌, ◌<◌, sym, ap, subst, ◌∙◌, arith, List, [], ◌∷◌, ◌++◌, append_assoc, append-nil}
use Rattle.std.specs.List.{flat_map, range_with_len}
use Rattle.std.proofs.lemmas.Grind.{flat_map-append}
use Rattle.op_num.specs.CutLines.{Unread}
use Rattle.bound_program.specs.Values.{BoundValue}
use Rattle.run_model.specs.Windows.{numbers}
use Rattle.checkpoint.specs.declared.state_texts.refusals.StateRefusal.{StateRefusal}
use Rattle.checkpoint.specs.Reading.{Awaited}
use Rattle.checkpoint.specs.Judged.{FitsAmong, RefusesAmong, PushesAmong}
use Rattle.checkpoint.proofs.state_texts.Judging.{fits_append, fits_same, refused_first, refused_then, refuses_same, pushed_more}

-- a range has a front, the next number, and a rest
range_cut : (a k n : ℕ) → k < n → (rest : List ℕ) × (range_with_len a n ≡ range_with_len a k ++ (a + k) ∷ rest)
range_cut a k zero l = absurd (omega arith)
range_cut a zero (suc n) l = (range_with_len (a + 1) n, (let e : a ≡ a + 0 = omega arith in ap (λ z. z ∷ range_with_len (a + 1) n) e))
range_cut a (suc k) (suc n) l =
    let r = range_cut (a + 1) k n (omega arith) in
    let e : a + 1 + k ≡ a + suc k = omega arith in
    (r.0, ap (λ z. a ∷ z) (r.1 ∙ ap (λ z. range_with_len (a + 1) k ++ z ∷ r.0) e))

range_more : (a k : ℕ) → range_with_len a (suc k) ≡ range_with_len a k ++ (a + k) ∷ []
range_more a zero = let e : a ≡ a + 0 = omega arith in ap (λ z. z ∷ []) e
range_more a (suc k) = let e : a + 1 + k ≡ a + suc k = omega arith in ap (λ z. a ∷ z) (range_more (a + 1) k ∙ ap (λ z. range_with_len (a + 1) k ++ z ∷ []) e)

pub numbers_more : (k : ℕ) → numbers (k + 1) ≡ numbers k ++ k ∷ []
numbers_more k = (let e : k + 1 ≡ suc k = omega arith in ap numbers e) ∙ (range_more 0 k ∙ (let e : 0 + k ≡ k = omega arith in ap (λ z. numbers k ++ z ∷ []) e))

pub numbers_cut : (k n : ℕ) → k < n → (rest : List ℕ) × (numbers n ≡ numbers k ++ k ∷ rest)
numbers_cut k n l = let r = range_cut 0 k n l in (r.0, r.1 ∙ (let e : 0 + k ≡ k = omega arith in ap (λ z. numbers k ++ z ∷ r.0) e))

module _ (f : ℕ → List Awaited) where
  -- those of the numbers below n
  abbrev pub below : ℕ → List Awaited
  below n = flat_map f (numbers n)

  pub below_more : (k : ℕ) → below (k + 1) ≡ below k ++ f k
  below_more k = ap (flat_map f) (numbers_more k) ∙ (flat_map-append f (numbers k) (k ∷ []) ∙ ap (λ z. below k ++ z) (append-nil (f k)))

  below_cut : (k n : ℕ) → k < n → (rest : List Awaited) × (below n ≡ (below k ++ f k) ++ rest)
  below_cut k n l =
      let r = numbers_cut k n l in
      (flat_map f r.0, ap (flat_map f) r.1 ∙ (flat_map-append f (numbers k) (k ∷ r.0) ∙ sym (append_assoc (below k) (f k) (flat_map f r.0))))

  module _ (b : BoundValue) (item : ℕ) where
    -- those of the next number too
    pub fits_next : (k : ℕ) (u v w : Unread) (zs ws : List ℤ) → FitsAmong b item (below k) u v zs → FitsAmong b item (f k) v w ws → FitsAmong b item (below (k + 1)) u w (zs ++ ws)
    fits_next k u v w zs ws p q = fits_same b item (below k ++ f k) (below (k + 1)) u w (zs ++ ws) (sym (below_more k)) (fits_append b item (below k) (f k) u v w zs ws p q)

    pub pushes_next : (k : ℕ) (u v w : Unread) (zs ws vs : List ℤ) → PushesAmong b item (below k) u v zs ws → PushesAmong b item (f k) v w ws vs → PushesAmong b item (below (k + 1)) u w zs vs
    pushes_next k u v w zs ws vs p q = subst (λ (z : List Awaited). PushesAmong b item z u w zs vs) (sym (below_more k)) (pushed_more b item (below k) (f k) u v w zs ws vs p q)

    -- one of its lines is refused
    pub refused_next : (k n : ℕ) (u v : Unread) (zs : List ℤ) (e : StateRefusal) → k < n → FitsAmong b item (below k) u v zs → RefusesAmong b item (f k) v e → RefusesAmong b item (below n) u e
    refused_next k n u v zs e l p r =
        let c = below_cut k n l in
        refuses_same b item ((below k ++ f k) ++ c.0) (below n) u e (sym c.1)
        (refused_first b item (below k ++ f k) c.0 u e (refused_then b item (below k) (f k) u v zs e p r))
