-- Judgements that have one result at most.
use Rattle.std.proofs.Common.{◌≡◌, inl, inr, ℕ, ◌<◌, ◌≤◌, ◌∙◌, sym, ap, subst, ⊎_elim, arith, Result, Ok, Err}
use Rattle.std.proofs.lemmas.Bool.{cases_lt}
use Rattle.gmsh_mesh.specs.declared.refusal.GmshRefusal.{GmshRefusal}
use Rattle.gmsh_mesh.specs.Stages.{Judgement, given, both, Both}

-- two results that are judged so are one
abbrev pub IsOne : {A : Type 0} → Judgement A → Type 0
IsOne {A} judged = (a b : Result A GmshRefusal) → judged a → judged b → a ≡ b

pub told-one : {A : Type 0} (r : Result A GmshRefusal) → IsOne (λ q. q ≡ r)
told-one r a b h k = h ∙ sym k

module _ {A B : Type 0} (judged : Judgement A) (rest : A → Judgement B) (one : IsOne judged) (each : (x : A) → IsOne (rest x)) where
  same-value : (x y : A) → ◌≡◌ {A = Result A GmshRefusal} (Ok x) (Ok y) → x ≡ y
  same-value x y h = cc

  ok-or-err : (x : A) (e : GmshRefusal) → ◌≡◌ {A = Result A GmshRefusal} (Ok x) (Err e) → ⊥
  ok-or-err x e h = cc

  same-refusal : (e f : GmshRefusal) → ◌≡◌ {A = Result A GmshRefusal} (Err e) (Err f) → e ≡ f
  same-refusal e f h = cc

  pub given-one : IsOne (given judged rest)
  given-one a b (inl (e, h, is)) (inl (f, k, it)) = is ∙ ap Err (same-refusal e f (one (Err e) (Err f) h k)) ∙ sym it
  given-one a b (inl (e, h, is)) (inr (y, k, it)) = absurd (ok-or-err y e (one (Ok y) (Err e) k h))
  given-one a b (inr (x, h, is)) (inl (f, k, it)) = absurd (ok-or-err x f (one (Ok x) (Err f) h k))
  given-one a b (inr (x, h, is)) (inr (y, k, it)) = each y a b (subst (λ z. rest z a) (same-value x y (one (Ok x) (Ok y) h k)) is) it

pub both-one : {A B : Type 0} (one : Judgement A) (other : Judgement B) → IsOne one → IsOne other → IsOne (Both one other)
both-one one other p q a b (x, y, h, k, is) (z, w, i, j, it) =
    let l : x ≡ z = p x z h i in
    let m : y ≡ w = q y w k j in
    is ∙ ap (λ v. both v y) l ∙ ap (λ v. both z v) m ∙ sym it

-- of the first places at which something is so there is one
pub first-one : (P : ℕ → Type 0) (a b : ℕ) → P a → P b → ((k : ℕ) → k < a → P k → ⊥) → ((k : ℕ) → k < b → P k → ⊥) → a ≡ b
first-one P a b h k na nb = ⊎_elim
    (λ (l : a < b). absurd (nb a l h))
    (λ (l : b ≤ a). ⊎_elim (λ (m : b < a). absurd (na b m k)) (λ (m : a ≤ b). omega arith) (cases_lt b a))
    (cases_lt a b)
