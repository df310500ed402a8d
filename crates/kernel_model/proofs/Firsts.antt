-- The breach that counts, of some that were found.
use Rattle.std.proofs.Common.{◌≡◌, ℕ, ◌<◌, ◌≤◌, Option, Some, None, Bool, true, false, cond, ◌&&◌, ◌||◌, refl, sym, ap, ◌∙◌, subst, ◌⊎◌, inl, inr, ⊎_elim, arith}
use Rattle.std.specs.Prelude.{nat_eq}
use Rattle.std.specs.Bool.{Decides}
use Rattle.std.proofs.lemmas.Bool.{eqb-true, eq-eqb, cases_lt}
use Rattle.std.proofs.lemmas.Bool.Decides.{Decides-ltb}
use Rattle.c_tree.specs.declared.lexer.tokens.Pos.{Pos}
use Rattle.c_tree.specs.Order.{IsEarlier}
use Rattle.kernel_model.specs.Refusals.{Rule, number_of, opposite}
use Rattle.kernel_model.specs.Walk.{Breach, is_earlier, is_place_of, precedes, noted, noted_if}

-- ---- tests

pub d_iff : {P Q : Type 0} → (r : Bool) → (P → Q) → (Q → P) → Decides r P → Decides r Q
d_iff r f g d = (λ e. f (d.0 e), λ q. d.1 (g q))

pub d_and : {P Q : Type 0} → (r s : Bool) → Decides r P → Decides s Q → Decides (r && s) (P × Q)
d_and true s d k = (λ e. (d.0 refl, k.0 e), λ h. k.1 h.1)
d_and false s d k = (λ e. absurd (let f : ⊥ = cc in f), λ h. d.1 h.0)

pub d_three : {P Q R : Type 0} → (r s t : Bool) → Decides r P → Decides s Q → Decides t R → Decides (r && (s && t)) (P × Q × R)
d_three r s t d k l = d_iff _ (λ h. (h.0, h.1.0, h.1.1)) (λ h. (h.0, (h.1, h.2))) (d_and r (s && t) d (d_and s t k l))

pub d_or : {P Q : Type 0} → (r s : Bool) → Decides r P → Decides s Q → Decides (r || s) (P ⊎ Q)
d_or true s d k = (λ e. inl (d.0 refl), λ h. refl)
d_or false s d k = (λ e. inr (k.0 e), λ h. ⊎_elim (λ p. absurd (let e = d.1 p in let f : ⊥ = cc in f)) (λ q. k.1 q) h)

pub d_true : {P : Type 0} → P → Decides true P
d_true p = (λ e. p, λ h. refl)

pub d_false : {P : Type 0} → (P → ⊥) → Decides false P
d_false n = (λ e. absurd (let f : ⊥ = cc in f), λ p. absurd (n p))

pub d_fails : (r : Bool) → Decides (opposite r) (r ≡ false)
d_fails true = (λ e. absurd (let f : ⊥ = cc in f), λ e. absurd (let f : ⊥ = cc in f))
d_fails false = (λ e. refl, λ e. refl)

pub d_some : {I P : Type 0} → (r : Bool) → I → Decides r P → Decides r ((i : I) × P)
d_some r i d = d_iff r (λ p. (i, p)) (λ q. q.1) d

d_equal : (a b : ℕ) → Decides (nat_eq a b) (a ≡ b)
d_equal a b = (λ e. eqb-true a b e, λ e. eq-eqb a b e)

-- ---- places

abbrev place_at : ℕ → ℕ → Pos
place_at l c = record { line = l; column = c }

same_place : (p q : Pos) → p.line ≡ q.line → p.column ≡ q.column → p ≡ q
same_place p q e f = ap (λ l. place_at l p.column) e ∙ ap (λ c. place_at q.line c) f

d_earlier : (p q : Pos) → Decides (is_earlier p q) (IsEarlier p q)
d_earlier p q = d_or _ _ (Decides-ltb p.line q.line) (d_and _ _ (d_equal p.line q.line) (Decides-ltb p.column q.column))

d_place : (p q : Pos) → Decides (is_place_of p q) (p ≡ q)
d_place p q = d_iff _ (λ h. same_place p q h.0 h.1) (λ e. (ap (λ (x : Pos). x.line) e, ap (λ (x : Pos). x.column) e)) (d_and _ _ (d_equal p.line q.line) (d_equal p.column q.column))

earlier_than : (p q r : Pos) → IsEarlier p q → IsEarlier q r → IsEarlier p r
earlier_than p q r (inl a) (inl b) = inl (omega arith)
earlier_than p q r (inl a) (inr b) = inl (omega (arith, b.0))
earlier_than p q r (inr a) (inl b) = inl (omega (arith, a.0))
earlier_than p q r (inr a) (inr b) = inr (a.0 ∙ b.0, omega (arith, a.1, b.1))

-- two places
one_of : (p q : Pos) → IsEarlier p q ⊎ ((p ≡ q) ⊎ IsEarlier q p)
one_of p q = pick (cases_lt p.line q.line) (cases_lt q.line p.line) (cases_lt p.column q.column) (cases_lt q.column p.column)
  where
    pick : (p.line < q.line) ⊎ (q.line ≤ p.line) → (q.line < p.line) ⊎ (p.line ≤ q.line) → (p.column < q.column) ⊎ (q.column ≤ p.column)
        → (q.column < p.column) ⊎ (p.column ≤ q.column) → IsEarlier p q ⊎ ((p ≡ q) ⊎ IsEarlier q p)
    pick (inl a) y z w = inl (inl a)
    pick (inr a) (inl b) z w = inr (inr (inl b))
    pick (inr a) (inr b) (inl c) w = inl (inr (omega arith, c))
    pick (inr a) (inr b) (inr c) (inl d) = inr (inr (inr (omega arith, d)))
    pick (inr a) (inr b) (inr c) (inr d) = inr (inl (same_place p q (omega arith) (omega arith)))

-- ---- the first of some breaches

-- it counts before the rule at that place, or is that one
abbrev pub Counts : Breach → Rule → Pos → Type 0
Counts b rule at = IsEarlier b.at at ⊎ ((b.at ≡ at) × (number_of b.rule ≤ number_of rule))

-- it is one of those, and counts before all others; none is found where there is none
abbrev pub IsFirst : Option Breach → (Rule → Pos → Type 0) → Type 0
IsFirst None P = (rule : Rule) (at : Pos) → P rule at → ⊥
IsFirst (Some b) P = P b.rule b.at × ((rule : Rule) (at : Pos) → P rule at → Counts b rule at)

pub first_iff : (found : Option Breach) (P Q : Rule → Pos → Type 0) → ((rule : Rule) (at : Pos) → P rule at → Q rule at)
    → ((rule : Rule) (at : Pos) → Q rule at → P rule at) → IsFirst found P → IsFirst found Q
first_iff None P Q f g h = λ rule at q. h rule at (g rule at q)
first_iff (Some b) P Q f g h = (f b.rule b.at h.0, λ rule at q. h.1 rule at (g rule at q))

d_precedes : (rule : Rule) (at : Pos) (b : Breach) → Decides (precedes rule at b) (IsEarlier at b.at ⊎ ((at ≡ b.at) × (number_of rule < number_of b.rule)))
d_precedes rule at b = d_or _ _ (d_earlier at b.at) (d_and _ _ (d_place at b.at) (Decides-ltb (number_of rule) (number_of b.rule)))

module _ (rule : Rule) (at : Pos) (b : Breach) where
  still_first : IsEarlier at b.at ⊎ ((at ≡ b.at) × (number_of rule < number_of b.rule)) → (other : Rule) (there : Pos) → Counts b other there → Counts (record { rule = rule; at = at }) other there
  still_first (inl x) other there (inl y) = inl (earlier_than at b.at there x y)
  still_first (inl x) other there (inr y) = inl (subst (λ p. IsEarlier at p) y.0 x)
  still_first (inr x) other there (inl y) = inl (subst (λ p. IsEarlier p there) (sym x.0) y)
  still_first (inr x) other there (inr y) = inr (x.0 ∙ y.0, omega (arith, x.1, y.1))

  counts_else : (IsEarlier at b.at ⊎ ((at ≡ b.at) × (number_of rule < number_of b.rule)) → ⊥) → Counts b rule at
  counts_else n = pick (one_of b.at at) (cases_lt (number_of rule) (number_of b.rule))
    where
      pick : IsEarlier b.at at ⊎ ((b.at ≡ at) ⊎ IsEarlier at b.at) → (number_of rule < number_of b.rule) ⊎ (number_of b.rule ≤ number_of rule) → Counts b rule at
      pick (inl x) y = inl x
      pick (inr (inr x)) y = absurd (n (inl x))
      pick (inr (inl x)) (inl y) = absurd (n (inr (sym x, y)))
      pick (inr (inl x)) (inr y) = inr (x, y)

-- one more breach
abbrev pub Or : (Rule → Pos → Type 0) → Rule → Pos → Rule → Pos → Type 0
Or P rule at other there = P other there ⊎ ((rule ≡ other) × (at ≡ there))

noted_first : (rule : Rule) (at : Pos) (found : Option Breach) (P : Rule → Pos → Type 0) → IsFirst found P → IsFirst (noted found rule at) (Or P rule at)
noted_first rule at None P h = (inr (refl, refl), λ other there q. ⊎_elim (λ p. absurd (h other there p)) (λ e. inr (e.1, subst (λ r. number_of rule ≤ number_of r) e.0 (omega arith))) q)
noted_first rule at (Some b) P h = pick (precedes rule at b) (d_precedes rule at b)
  where
    pick : (r : Bool) → Decides r (IsEarlier at b.at ⊎ ((at ≡ b.at) × (number_of rule < number_of b.rule))) → IsFirst (cond r (Some (record { rule = rule; at = at })) (Some b)) (Or P rule at)
    pick true d = (
      inr (refl, refl),
      λ other there q. ⊎_elim (λ p. still_first rule at b (d.0 refl) other there (h.1 other there p)) (λ e. inr (e.1, subst (λ r. number_of rule ≤ number_of r) e.0 (omega arith))) q,
    )
    pick false d = (
      inl h.0,
      λ other there q. ⊎_elim (λ p. h.1 other there p)
          (λ e. subst (λ r. Counts b r there) e.0
          (subst (λ p. Counts b rule p) e.1 (counts_else rule at b (λ k. let z = d.1 k in let f : ⊥ = cc in f)))) q,
    )

-- one more breach where something holds
abbrev pub OrIf : (Rule → Pos → Type 0) → Type 0 → Rule → Pos → Rule → Pos → Type 0
OrIf P Q rule at other there = P other there ⊎ ((rule ≡ other) × ((at ≡ there) × Q))

pub noted_if_first : (broken : Bool) (Q : Type 0) (rule : Rule) (at : Pos) (found : Option Breach) (P : Rule → Pos → Type 0)
    → Decides broken Q → IsFirst found P → IsFirst (noted_if broken rule at found) (OrIf P Q rule at)
noted_if_first true Q rule at found P d h =
    first_iff (noted found rule at) (Or P rule at) (OrIf P Q rule at)
    (λ other there q. ⊎_elim (λ p. inl p) (λ e. inr (e.0, (e.1, d.0 refl))) q)
    (λ other there q. ⊎_elim (λ p. inl p) (λ e. inr (e.0, e.1.0)) q) (noted_first rule at found P h)
noted_if_first false Q rule at found P d h =
    first_iff found P (OrIf P Q rule at) (λ other there p. inl p) (λ other there q. ⊎_elim (λ p. p) (λ e. absurd (let z = d.1 e.1.1 in let f : ⊥ = cc in f)) q) h
