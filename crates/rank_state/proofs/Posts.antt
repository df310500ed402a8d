-- The messages of each pair, in one list of all.
use Rattle.std.proofs.Common.{◌≡◌, ℕ, Bool, true, false, cond, ◌⊎◌, inl, inr, refl, sym, ap, subst, ◌∙◌, ⊎_elim, List, [], ◌∷◌, ◌++◌, Some, map, length}
use Rattle.std.specs.Prelude.{◌&&◌, ◌==◌}
use Rattle.std.proofs.lemmas.Bool.{cases_Bool, false≢true, false_from_ne_true, and_parts, and_from, cond-true, cond-false, eqb-true, eq-eqb}
use Rattle.schedule_model.specs.Machine.{put2}
use Rattle.schedule_model.specs.Setup.{Setup}
use Rattle.schedule_model.specs.Layout.{Layout}
use Rattle.schedule_model.specs.Flat as flat
use Rattle.rank_state.specs.Mail.{Post, is_of, first_post, without_first}
use Rattle.rank_state.specs.Shows.{Tables, AreWhole, post_of, queue}

-- the two are one pair
abbrev pub pair : ℕ → ℕ → ℕ → ℕ → Bool
pair x y a b = (x == a) && (y == b)

pair_true : (x y a b : ℕ) → pair x y a b ≡ true → (x ≡ a) × (y ≡ b)
pair_true x y a b h = let e : ((x == a) ≡ true) × ((y == b) ≡ true) = and_parts (x == a) (y == b) h in (eqb-true x a e.0, eqb-true y b e.1)

pair_from : (x y a b : ℕ) → x ≡ a → y ≡ b → pair x y a b ≡ true
pair_from x y a b e i = and_from (x == a) (y == b) (eq-eqb x a e) (eq-eqb y b i)

pub pair_swap : (x y a b : ℕ) → pair x y a b ≡ false → pair a b x y ≡ false
pair_swap x y a b h = false_from_ne_true (pair a b x y) (λ t. let e : (a ≡ x) × (b ≡ y) = pair_true a b x y t in false≢true (sym h ∙ pair_from x y a b (sym e.0) (sym e.1)))

pub pair_cases : (x y a b : ℕ) → ((x ≡ a) × (y ≡ b)) ⊎ (pair x y a b ≡ false)
pair_cases x y a b = ⊎_elim (λ (t : pair x y a b ≡ true). inl (pair_true x y a b t)) (λ (t : pair x y a b ≡ false). inr t) (cases_Bool (pair x y a b))

pub put2_same : {A : Type 0} (a b : ℕ) (v : A) (f : ℕ → ℕ → A) → put2 a b v f a b ≡ v
put2_same a b v f = cond-true (pair a b a b) v (f a b) (pair_from a b a b refl refl)

pub put2_other : {A : Type 0} (a b : ℕ) (v : A) (f : ℕ → ℕ → A) (x y : ℕ) → pair x y a b ≡ false → put2 a b v f x y ≡ f x y
put2_other a b v f x y h = cond-false (pair x y a b) v (f x y) h

queue_append : (s r : ℕ) (xs ys : List Post) → queue s r (xs ++ ys) ≡ queue s r xs ++ queue s r ys
queue_append s r [] ys = refl
queue_append s r (x ∷ xs) ys = by_test (is_of s r x) (queue_append s r xs ys)
  where
    by_test : (b : Bool) → queue s r (xs ++ ys) ≡ queue s r xs ++ queue s r ys
        → cond b (post_of x ∷ queue s r (xs ++ ys)) (queue s r (xs ++ ys)) ≡ cond b (post_of x ∷ queue s r xs) (queue s r xs) ++ queue s r
        ys
    by_test true h = ap (λ z. post_of x ∷ z) h
    by_test false h = h

-- one message more
pub queue_push : (posts : List Post) (mail : ℕ → ℕ → List flat.Post) → ((s r : ℕ) → queue s r posts ≡ mail s r) → (y : Post) (s r : ℕ)
    → queue s r (posts ++ (y ∷ [])) ≡ put2 y.from y.to (mail y.from y.to ++ (post_of y ∷ [])) mail s r
queue_push posts mail h y s r = ⊎_elim
    (λ (e : (s ≡ y.from) × (r ≡ y.to)).
    subst (λ z. queue z r (posts ++ (y ∷ [])) ≡ put2 y.from y.to (mail y.from y.to ++ (post_of y ∷ [])) mail z r) (sym e.0)
    (subst (λ z. queue y.from z (posts ++ (y ∷ [])) ≡ put2 y.from y.to (mail y.from y.to ++ (post_of y ∷ [])) mail y.from z) (sym e.1)
    (queue_append y.from y.to posts (y ∷ [])
    ∙ (ap (λ z. z ++ queue y.from y.to (y ∷ [])) (h y.from y.to)
    ∙ (ap (λ z. mail y.from y.to ++ z) (cond-true (is_of y.from y.to y) (post_of y ∷ []) [] (pair_from y.from y.to y.from y.to refl refl))
    ∙ sym (put2_same y.from y.to (mail y.from y.to ++ (post_of y ∷ [])) mail))))))
    (λ (ne : pair s r y.from y.to ≡ false).
    queue_append s r posts (y ∷ [])
    ∙ (ap (λ z. queue s r posts ++ z) (cond-false (is_of s r y) (post_of y ∷ []) [] (pair_swap s r y.from y.to ne))
    ∙ (nil (queue s r posts) ∙ (h s r ∙ sym (put2_other y.from y.to (mail y.from y.to ++ (post_of y ∷ [])) mail s r ne)))))
    (pair_cases s r y.from y.to)
  where
    nil : (xs : List flat.Post) → xs ++ [] ≡ xs
    nil [] = refl
    nil (x ∷ xs) = ap (λ z. x ∷ z) (nil xs)

-- the oldest of a pair stands first in its queue
pub first_queue : (s r : ℕ) (ps : List Post) (y : Post) → first_post s r ps ≡ Some y → queue s r ps ≡ post_of y ∷ queue s r (without_first s r ps)
first_queue s r [] y h = cc
first_queue s r (p ∷ ps) y h = by_test (is_of s r p) refl h (first_queue s r ps y)
  where
    by_test : (b : Bool) → is_of s r p ≡ b → cond b (Some p) (first_post s r ps) ≡ Some y → (first_post s r ps ≡ Some y → queue s r ps ≡ post_of y ∷ queue s r (without_first s r ps))
        → cond b (post_of p ∷ queue s r ps) (queue s r ps) ≡ post_of y ∷ queue s r (cond b ps (p ∷ without_first s r ps))
    by_test true e i ih = let j : p ≡ y = cc in ap (λ z. post_of z ∷ queue s r ps) j
    by_test false e i ih = ih i ∙ ap (λ z. post_of y ∷ z) (sym (cond-false (is_of s r p) (post_of p ∷ queue s r (without_first s r ps)) (queue s r (without_first s r ps)) e))

-- the queues of other pairs stay
other_queue : (s r : ℕ) (ps : List Post) (a b : ℕ) → pair a b s r ≡ false → queue a b (without_first s r ps) ≡ queue a b ps
other_queue s r [] a b ne = refl
other_queue s r (p ∷ ps) a b ne = by_test (is_of s r p) refl (other_queue s r ps a b ne)
  where
    by_test : (t : Bool) → is_of s r p ≡ t → queue a b (without_first s r ps) ≡ queue a b ps → queue a b (cond t ps (p ∷ without_first s r ps)) ≡ queue a b (p ∷ ps)
    by_test true e ih =
        let i : (p.from ≡ s) × (p.to ≡ r) = pair_true p.from p.to s r e in
        sym (cond-false (is_of a b p) (post_of p ∷ queue a b ps) (queue a b ps)
        (false_from_ne_true (is_of a b p) (λ t. let j : (p.from ≡ a) × (p.to ≡ b) = pair_true p.from p.to a b t in false≢true (sym ne ∙ pair_from a b s r (sym j.0 ∙ i.0) (sym j.1 ∙ i.1)))))
    by_test false e ih = ap (λ z. cond (is_of a b p) (post_of p ∷ z) z) ih

-- the oldest of a pair is taken
pub queue_pop : (posts : List Post) (mail : ℕ → ℕ → List flat.Post) → ((s r : ℕ) → queue s r posts ≡ mail s r) → (s r : ℕ) (xs : List flat.Post) → queue s r (without_first s r posts) ≡ xs → (a b : ℕ)
    → queue a b (without_first s r posts) ≡ put2 s r xs mail a b
queue_pop posts mail h s r xs i a b = ⊎_elim
    (λ (e : (a ≡ s) × (b ≡ r)).
    subst (λ z. queue z b (without_first s r posts) ≡ put2 s r xs mail z b) (sym e.0)
    (subst (λ z. queue s z (without_first s r posts) ≡ put2 s r xs mail s z) (sym e.1) (i ∙ sym (put2_same s r xs mail))))
    (λ (ne : pair a b s r ≡ false). other_queue s r posts a b ne ∙ (h a b ∙ sym (put2_other s r xs mail a b ne)))
    (pair_cases a b s r)

module _ {F : Type 0} (p : Setup F) (l : Layout F) (t : Tables) where
  pub whole_push : (ps : List Post) (y : Post) → AreWhole p l t ps → length y.values ≡ length (l.exports y.item y.from y.to) → AreWhole p l t (ps ++ (y ∷ []))
  whole_push [] y h e = (e, tt)
  whole_push (x ∷ ps) y h e = (h.0, whole_push ps y h.1 e)

  pub whole_pop : (s r : ℕ) (ps : List Post) → AreWhole p l t ps → AreWhole p l t (without_first s r ps)
  whole_pop s r [] h = tt
  whole_pop s r (x ∷ ps) h = by_test (is_of s r x) (whole_pop s r ps h.1)
    where
      by_test : (b : Bool) → AreWhole p l t (without_first s r ps) → AreWhole p l t (cond b ps (x ∷ without_first s r ps))
      by_test true i = h.1
      by_test false i = (h.0, i)

  pub whole_first : (s r : ℕ) (ps : List Post) (y : Post) → AreWhole p l t ps → first_post s r ps ≡ Some y → length y.values ≡ length (l.exports y.item s r)
  whole_first s r [] y h e = cc
  whole_first s r (x ∷ ps) y h e = by_test (is_of s r x) refl e (whole_first s r ps y h.1)
    where
      by_test : (b : Bool) → is_of s r x ≡ b → cond b (Some x) (first_post s r ps) ≡ Some y
          → (first_post s r ps ≡ Some y → length y.values ≡ length (l.exports y.item s r)) → length y.values ≡ length (l.exports y.item s r)
      by_test true i e ih =
          let j : (x.from ≡ s) × (x.to ≡ r) = pair_true x.from x.to s r i in
          let same : x ≡ y = cc in
          subst (λ z. length z.values ≡ length (l.exports z.item s r)) same (h.0 ∙ (ap (λ z. length (l.exports x.item z x.to)) j.0 ∙ ap (λ z. length (l.exports x.item s z)) j.1))
      by_test false i e ih = ih e

-- a pair whose queue isn't empty
pub first_of : (s r : ℕ) (ps : List Post) (k : ℕ) (ks : List ℕ) → map (λ (z : flat.Post). z.about) (queue s r ps) ≡ k ∷ ks → (y : Post) × (first_post s r ps ≡ Some y) × (y.item ≡ k)
first_of s r [] k ks h = cc
first_of s r (x ∷ ps) k ks h = by_test (is_of s r x) h (first_of s r ps k ks)
  where
    by_test : (b : Bool) → map (λ (z : flat.Post). z.about) (cond b (post_of x ∷ queue s r ps) (queue s r ps)) ≡ k ∷ ks
        → (map (λ (z : flat.Post). z.about) (queue s r ps) ≡ k ∷ ks → (y : Post) × (first_post s r ps ≡ Some y) × (y.item ≡ k)) → (y : Post)
        × (cond b (Some x) (first_post s r ps) ≡ Some y) × (y.item ≡ k)
    by_test true e ih = (x, refl, (let j : x.item ≡ k = cc in j))
    by_test false e ih = ih e
