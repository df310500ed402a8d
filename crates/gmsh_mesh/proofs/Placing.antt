-- Coordinates of one node after another, and the largest scale.
use Rattle.std.proofs.Common.{◌≡◌, ℕ, zero, suc, ◌+◌, ◌-◌, ◌^◌, ◌<◌, ◌≤◌, ◌⊎◌, inl, inr, ◌∙◌, ◌++◌, ℤ, [], ◌∷◌, arith, ⊎_elim, List, length, drop, get_or, true, false, Option, Result, Ok, Err, IsErrAnd, refl, sym, ap, drop-cons}
use Rattle.std.proofs.lemmas.Result.{err_from_is_err_and}
use Rattle.std.proofs.lemmas.Bool.{cases_lt}
use Rattle.std.specs.Prelude.{if◌then◌else◌}
use Rattle.op_num.specs.Automaton.{after, onto, Answers}
use Rattle.gmsh_text.specs.Decimal.{Decimal, decimal_of}
use Rattle.gmsh_text.specs.Nearest.{fits_at, judged}
use Rattle.gmsh_text.specs.declared.decimals.reading.DecimalRefusal.{DecimalRefusal}
use Rattle.op_num.specs.Cut.{Word}
use Rattle.gmsh_text.specs.declared.nodes.Point.{Point}
use Rattle.gmsh_mesh.specs.declared.choice.Dimension.{Dimension}
use Rattle.gmsh_mesh.specs.declared.refusal.GmshRefusal.{GmshRefusal}
use Rattle.gmsh_mesh.specs.declared.refusal.GmshRefusal.TheVariants.{Coordinate, OutOfMemory}
use Rattle.gmsh_mesh.specs.Coordinates.{largest_upto, coordinate_read, coordinate, place, places_behind}

step-true : (d : Option Decimal) (n : ℕ) → fits_at d (suc n) ≡ true → largest_upto d (suc n) ≡ suc n
unfolding largest_upto
step-true d n h = ap (λ b. if b then suc n else largest_upto d n) h

step-false : (d : Option Decimal) (n : ℕ) → fits_at d (suc n) ≡ false → largest_upto d (suc n) ≡ largest_upto d n
unfolding largest_upto
step-false d n h = ap (λ b. if b then suc n else largest_upto d n) h

-- a number up to which it fits, and beyond which it does not, is the largest
pub is-largest : (d : Option Decimal) (n r : ℕ) → r ≤ n → ((k : ℕ) → 0 < k → k ≤ r → fits_at d k ≡ true)
    → ((k : ℕ) → r < k → k < n + 1 → fits_at d k ≡ false)
    → largest_upto d n ≡ r
unfolding largest_upto
is-largest d zero r l fits beyond = omega arith
is-largest d (suc n) r l fits beyond = ⊎_elim
    (λ (a : n < r). let e : suc n ≡ r = omega arith in step-true d n (fits (suc n) (omega arith) (omega arith)) ∙ e)
    (λ (a : r ≤ n). step-false d n (beyond (suc n) (omega arith) (omega arith)) ∙ is-largest d n r a fits (λ k b c. beyond k b (omega arith)))
    (cases_lt n r)

module _ (dim : Dimension) (scale : ℕ) (front : List ℤ) (p : Point) (ps : List Point) where
  behind : (r : Result (List ℤ) GmshRefusal) (next : List ℤ) → onto r (λ xs. front ++ xs) ≡ Ok next
      → after r (λ xs. places_behind dim scale (front ++ xs) ps) ≡ places_behind dim scale next ps
  behind (Ok xs) next h = let e : front ++ xs ≡ next = cc in ap (λ ys. places_behind dim scale ys ps) e
  behind (Err x) next h = cc

  refuses : (r : Result (List ℤ) GmshRefusal) (e : GmshRefusal) → onto r (λ xs. front ++ xs) ≡ Err e
      → after r (λ xs. places_behind dim scale (front ++ xs) ps) ≡ Err e
  refuses (Ok xs) e h = cc
  refuses (Err x) e h = let s : x ≡ e = cc in ap Err s

  pub one-more : (next : List ℤ) → onto (place dim scale p) (λ xs. front ++ xs) ≡ Ok next → places_behind dim scale front (p ∷ ps) ≡ places_behind dim scale next ps
  unfolding places_behind
  one-more next h = behind (place dim scale p) next h

  pub refused : (e : GmshRefusal) → onto (place dim scale p) (λ xs. front ++ xs) ≡ Err e → places_behind dim scale front (p ∷ ps) ≡ Err e
  unfolding places_behind
  refused e h = refuses (place dim scale p) e h

pub none-left : (dim : Dimension) (scale : ℕ) (front : List ℤ) (ps : List Point) → ps ≡ [] → places_behind dim scale front ps ≡ Ok front
unfolding places_behind
none-left dim scale front [] h = refl
none-left dim scale front (p ∷ ps) h = cc

drop-none : (ps : List Point) (n : ℕ) → n ≡ length ps → drop n ps ≡ []
drop-none [] zero h = refl
drop-none [] (suc n) h = refl
drop-none (p ∷ ps) zero h = absurd (omega arith)
drop-none (p ∷ ps) (suc n) h = drop-none ps n (omega arith)

module _ (dim : Dimension) (scale : ℕ) (front : List ℤ) (ps : List Point) (at : ℕ) where
  here : (p : Point) → at < length ps → p ≡ get_or ps at p → drop at ps ≡ p ∷ drop (suc at) ps
  here p l is = drop-cons ps at p l ∙ ap (λ q. q ∷ drop (suc at) ps) (sym is)

  pub at-more : (p : Point) (next : List ℤ) → at < length ps → p ≡ get_or ps at p → onto (place dim scale p) (λ xs. front ++ xs) ≡ Ok next
      → places_behind dim scale front (drop at ps) ≡ places_behind dim scale next (drop (at + 1) ps)
  at-more p next l is h =
      let e : suc at ≡ at + 1 = omega arith in
      ap (places_behind dim scale front) (here p l is) ∙ one-more dim scale front p (drop (suc at) ps) next h ∙ ap (λ i. places_behind dim scale next (drop i ps)) e

  pub at-refused : (p : Point) (e : GmshRefusal) → at < length ps → p ≡ get_or ps at p → ((e ≡ OutOfMemory) ⊎ (onto (place dim scale p) (λ xs. front ++ xs) ≡ Err e))
      → (e ≡ OutOfMemory) ⊎ (places_behind dim scale front (drop at ps) ≡ Err e)
  at-refused p e l is (inl h) = inl h
  at-refused p e l is (inr h) = inr (ap (places_behind dim scale front) (here p l is) ∙ refused dim scale front p (drop (suc at) ps) e h)

  pub at-end : at ≡ length ps → places_behind dim scale front (drop at ps) ≡ Ok front
  at-end e = none-left dim scale front (drop at ps) (drop-none ps at e)

-- a refusal that `?` passes on
pub told : {A V : Type 0} (r : Result A GmshRefusal) (e : GmshRefusal) (view : A → V) (p : Result V GmshRefusal) → IsErrAnd r (λ y. y ≡ e)
    → ((e ≡ OutOfMemory) ⊎ (p ≡ Err e))
    → Answers OutOfMemory r view p
told r e view p h f = let k = err_from_is_err_and r h in rw (k.1, k.2) f

pub or-else : {V : Type 0} (p q : Result V GmshRefusal) (e : GmshRefusal) → p ≡ q → ((e ≡ OutOfMemory) ⊎ (q ≡ Err e)) → (e ≡ OutOfMemory) ⊎ (p ≡ Err e)
or-else p q e h (inl x) = inl x
or-else p q e h (inr x) = inr (h ∙ x)

-- a coordinate that is no integer of 32 bits at this scale
pub outside : (w : Word) (scale l : ℕ) (e : DecimalRefusal) (line : ℕ) → judged (decimal_of w.text) scale ≡ Err e → line ≡ w.line → l ≤ 2 ^ 32 - 1
    → ((k : ℕ) → 0 < k → k ≤ l → fits_at (decimal_of w.text) k ≡ true)
    → ((k : ℕ) → l < k → k < 2 ^ 32 → fits_at (decimal_of w.text) k ≡ false)
    → Err (Coordinate line l) ≡ coordinate scale w
outside w scale l e line h is low fits beyond =
    let big : largest_upto (decimal_of w.text) (2 ^ 32 - 1) ≡ l = is-largest (decimal_of w.text) (2 ^ 32 - 1) l low fits beyond in
    ap (λ n. Err (Coordinate n l)) is ∙ ap (λ n. Err (Coordinate w.line n)) (sym big) ∙ sym (ap (coordinate_read w) h)
