-- The tag of a class with one element more.
use Rattle.std.proofs.Common.{◌≡◌, ◌⊎◌, inl, inr, ℕ, ◌+◌, ◌<◌, ◌≤◌, ℤ, Bool, true, false, ◌∙◌, refl, sym, ap, subst, ⊎_elim, arith, List, get_or, Option, Some, None, Result, Ok, Err}
use Rattle.std.proofs.lemmas.Bool.{cases_lt}
use Rattle.std.proofs.lemmas.Bool.Decides.{Decides-int_eq}
use Rattle.std.specs.Prelude.{if◌then◌else◌}
use Rattle.std.specs.Ordering.{int_eq}
use Rattle.gmsh_text.specs.declared.entities.Group.{Group}
use Rattle.gmsh_text.specs.declared.entities.Group.TheVariants.{Ungrouped, One, Several}
use Rattle.gmsh_mesh.specs.declared.refusal.GmshRefusal.{GmshRefusal}
use Rattle.gmsh_mesh.specs.declared.refusal.GmshRefusal.TheVariants.{TwoGroups}
use Rattle.gmsh_mesh.specs.Boundary.{IsFree, IsIn}
use Rattle.gmsh_mesh.specs.Classes.{joined_one, joined_tag, IsOfClass, IsClassTag}

module _ (classes : List ℕ) (count : ℕ) (groups : List Group) (e class : ℕ) where
  -- what holds of the elements before e and of e holds of those before e + 1
  each-more : (P : ℕ → Type 0) → ((k : ℕ) → k < e → IsOfClass classes count class k → P k) → (IsOfClass classes count class e → P e) → (k : ℕ) → k < e + 1 → IsOfClass classes count class k → P k
  each-more P before here k lk is =
      ⊎_elim (λ (a : k < e). before k a is)
      (λ (a : e ≤ k). let same : k ≡ e = omega arith in subst P (sym same) (here (subst (IsOfClass classes count class) same is)))
      (cases_lt k e)

  -- an element of another class changes nothing
  pub not-of : (o : Option ℤ) → IsClassTag classes count groups e class o → (IsOfClass classes count class e → ⊥) → IsClassTag classes count groups (e + 1) class o
  not-of None h n = each-more (IsFree groups) h (λ is. absurd (n is))
  not-of (Some t) h n =
      ((h.0.0, omega (arith, h.0.1), h.0.2, h.0.3), each-more (λ k. IsFree groups k ⊎ IsIn groups k t) h.1 (λ is. absurd (n is)))

  free-more : (o : Option ℤ) → IsClassTag classes count groups e class o → IsFree groups e → IsClassTag classes count groups (e + 1) class o
  free-more None h f = each-more (IsFree groups) h (λ is. f)
  free-more (Some t) h f =
      ((h.0.0, omega (arith, h.0.1), h.0.2, h.0.3), each-more (λ k. IsFree groups k ⊎ IsIn groups k t) h.1 (λ is. inl f))

  ok-same : (o p : Option ℤ) → ◌≡◌ {A = Result (Option ℤ) GmshRefusal} (Ok o) (Ok p) → o ≡ p
  ok-same o p h = cc

  -- with the element's group the tag of its class is this one
  pub more : (o p : Option ℤ) (g : Group) (line : ℕ) → get_or groups e Ungrouped ≡ g → IsOfClass classes count class e
      → IsClassTag classes count groups e class o
      → joined_tag o g line ≡ Ok p
      → IsClassTag classes count groups (e + 1) class p
  more o p Ungrouped line is of h j = subst (IsClassTag classes count groups (e + 1) class) (ok-same o p j) (free-more o h is)
  more o p Several line is of h j = absurd (let f : ⊥ = cc in f)
  more None p (One t) line is of h j =
      subst (IsClassTag classes count groups (e + 1) class) (ok-same (Some t) p j)
      ((e, omega arith, of, is), each-more (λ k. IsFree groups k ⊎ IsIn groups k t) (λ k lk isk. inl (h k lk isk)) (λ _. inr is))
  more (Some s) p (One t) line is of h j = by (int_eq s t) refl
    where
      by : (b : Bool) → int_eq s t ≡ b → IsClassTag classes count groups (e + 1) class p
      by true l =
          let same : s ≡ t = (Decides-int_eq s t).0 l in
          let k : joined_one (Some s) t line ≡ Ok (Some s) = ap (λ b. if b then Ok (Some s) else Err (TwoGroups line)) l in
          subst (IsClassTag classes count groups (e + 1) class) (ok-same (Some s) p (sym k ∙ j))
          ((h.0.0, omega (arith, h.0.1), h.0.2, h.0.3), each-more (λ k. IsFree groups k ⊎ IsIn groups k s) h.1 (λ _. inr (is ∙ ap One (sym same))))
      by false l = let k : joined_one (Some s) t line ≡ Err (TwoGroups line) = ap (λ b. if b then Ok (Some s) else Err (TwoGroups line)) l in absurd (let f : ⊥ = cc in f)
