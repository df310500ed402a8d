-- Where what comes next is one, an order is one.
use Rattle.std.proofs.Common.{◌≡◌, ℕ, zero, suc, ◌+◌, ◌*◌, ◌^◌, ◌<◌, ◌≤◌, Bool, List, [], ◌∷◌, ◌++◌, length, take, get_or, refl, sym, ap, ◌∙◌, arith, ⊎_elim, subst}
use Rattle.std.proofs.Math.Seq.{take-suc}
use Rattle.std.specs.List.{Contains}
use Rattle.std.proofs.lemmas.List.{take_all, length-take-le, get_or_default, get_or-take}
use Rattle.mesh_decl.specs.Mesh.{MeshValue}
use Rattle.renumber.specs.Taken.{IsNext, IsTaken}
use Rattle.renumber.specs.Degrees.{degree, degree_order}
use Rattle.renumber.specs.OneOrder.{AreApart}

module _ (Next : ℕ → List ℕ → ℕ → Type 0) (one : (k : ℕ) (xs : List ℕ) (x y : ℕ) → Next k xs x → Next k xs y → x ≡ y) where
  same_fronts : (a b : List ℕ) → length a ≡ length b → ((k : ℕ) → k < length a → Next k (take k a) (get_or a k 0))
      → ((k : ℕ) → k < length b → Next k (take k b) (get_or b k 0)) → (k : ℕ) → k ≤ length a → take k a ≡ take k b
  same_fronts a b e f g zero l = refl
  same_fronts a b e f g (suc k) l =
      let front : take k a ≡ take k b = same_fronts a b e f g k (omega arith) in
      let lb : k < length b = omega arith in
      let la : k < length a = omega arith in
      let here : get_or a k 0 ≡ get_or b k 0 = one k (take k b) (get_or a k 0) (get_or b k 0) (subst (λ xs. Next k xs (get_or a k 0)) front (f k la)) (g k lb) in
      take-suc a k 0 la ∙ (ap (λ xs. xs ++ get_or a k 0 ∷ []) front ∙ (ap (λ x. take k b ++ x ∷ []) here ∙ sym (take-suc b k 0 lb)))

  pub one_order : (a b : List ℕ) → length a ≡ length b → ((k : ℕ) → k < length a → Next k (take k a) (get_or a k 0)) → ((k : ℕ) → k < length b → Next k (take k b) (get_or b k 0)) → a ≡ b
  one_order a b e f g = sym (take_all (length a) a (omega arith)) ∙ (same_fronts a b e f g (length a) (omega arith) ∙ take_all (length a) b (omega arith))

one_next : (n : ℕ) (near : ℕ → ℕ → Bool) (key : ℕ → ℕ) → AreApart n key → (xs : List ℕ) (x y : ℕ) → IsNext n near key xs x → IsNext n near key xs y → x ≡ y
one_next n near key apart xs x y p q = apart x y p.within q.within (⊎_elim
    (λ h. ⊎_elim (λ m. absurd (omega arith)) (λ m. absurd (omega (arith, m.0))) (q.least x p.within p.new))
    (λ h. ⊎_elim (λ m. absurd (omega (arith, h.0))) (λ m. omega (arith, h.1, m.1)) (q.least x p.within p.new))
    (p.least y q.within q.new))

pub one_taking : (n : ℕ) (near : ℕ → ℕ → Bool) (key : ℕ → ℕ) (a b : List ℕ) → AreApart n key → length a ≡ n → length b ≡ n → IsTaken n near key a → IsTaken n near key b → a ≡ b
one_taking n near key a b apart la lb f g = one_order (λ k. IsNext n near key) (λ k. one_next n near key apart) a b (la ∙ sym lb) f g

-- a number is told by its low part
pub low_parts : (d e x y : ℕ) → x < 2 ^ 32 → y < 2 ^ 32 → d * 2 ^ 32 + x ≡ e * 2 ^ 32 + y → x ≡ y
low_parts d e x y lx ly h = omega arith

pub degrees_apart : (g : MeshValue) (m : ℕ) → AreApart (2 ^ 32) (degree_order g m)
unfolding degree_order
degrees_apart g m x y lx ly e = low_parts (degree g m x) (degree g m y) x y lx ly e

-- what stands at an earlier place stands in the front
pub in_front : (xs : List ℕ) (k j : ℕ) → k ≤ length xs → j < k → Contains (take k xs) (get_or xs j 0)
in_front xs k j lk l =
    let n : length (take k xs) ≡ k = length-take-le k xs lk in
    let lj : j < length (take k xs) = omega arith in
    (j, lj, get_or_default (take k xs) j (get_or xs j 0) 0 lj ∙ get_or-take k xs j 0 l)
