-- The breach that counts doesn't turn on the order in which breaches are found.
use Rattle.std.proofs.Common.{◌≡◌, ℕ, Option, Some, None, Bool, true, cond, refl, sym, ap, ◌∙◌, subst, inl, inr, ⊎_elim, arith}
use Rattle.std.specs.Prelude.{nat_eq}
use Rattle.c_tree.specs.declared.lexer.tokens.Pos.{Pos}
use Rattle.c_tree.specs.Order.{IsEarlier}
use Rattle.kernel_model.specs.Refusals.{Rule, WritesRead, ReadsInc, IncNotSum, ReadsUnwritten, NotAllWritten, WriteIndexNotStatic, LiteralIndexOut, MinMaxForm, number_of}
use Rattle.kernel_model.specs.Walk.{Breach, noted_if}
use Rattle.kernel_model.proofs.Public.{Counts, IsFirst, first_iff, OrIf, noted_if_first}
use Rattle.lemmas.proofs.Truth.{decides_itself}

abbrev pub Found : Type 0
Found = Option Breach

-- ---- one breach counts

abbrev rule_at : ℕ → Rule
rule_at n =
    cond (nat_eq n 1) WritesRead (cond (nat_eq n 2) ReadsInc (cond (nat_eq n 3) IncNotSum (cond (nat_eq n 4) ReadsUnwritten
    (cond (nat_eq n 5) NotAllWritten (cond (nat_eq n 6) WriteIndexNotStatic (cond (nat_eq n 7) LiteralIndexOut MinMaxForm))))))

rule_back : (r : Rule) → rule_at (number_of r) ≡ r
rule_back WritesRead = refl
rule_back ReadsInc = refl
rule_back IncNotSum = refl
rule_back ReadsUnwritten = refl
rule_back NotAllWritten = refl
rule_back WriteIndexNotStatic = refl
rule_back LiteralIndexOut = refl
rule_back MinMaxForm = refl

same_rule : (r s : Rule) → number_of r ≡ number_of s → r ≡ s
same_rule r s e = sym (rule_back r) ∙ ap rule_at e ∙ rule_back s

never_both : (p q : Pos) → IsEarlier p q → IsEarlier q p → ⊥
never_both p q (inl a) (inl b) = omega (arith, a, b)
never_both p q (inl a) (inr b) = let e = b.0 in omega (arith, a, e)
never_both p q (inr a) (inl b) = let e = a.0 in omega (arith, e, b)
never_both p q (inr a) (inr b) = let l = a.1 in let m = b.1 in omega (arith, l, m)

not_before_itself : (p q : Pos) → p ≡ q → IsEarlier p q → ⊥
not_before_itself p q e h = let k : IsEarlier p p = subst (λ x. IsEarlier p x) (sym e) h in never_both p p k k

abbrev breach_at : Rule → Pos → Breach
breach_at r p = record { rule = r; at = p }

same_breach : (b d : Breach) → Counts b d.rule d.at → Counts d b.rule b.at → b ≡ d
same_breach b d (inl x) (inl y) = absurd (never_both b.at d.at x y)
same_breach b d (inl x) (inr y) = absurd (not_before_itself b.at d.at (sym y.0) x)
same_breach b d (inr x) (inl y) = absurd (not_before_itself d.at b.at (sym x.0) y)
same_breach b d (inr x) (inr y) =
    let l = x.1 in
    let m = y.1 in
    let n : number_of b.rule ≡ number_of d.rule = omega (arith, l, m) in
    ap (λ r. breach_at r b.at) (same_rule b.rule d.rule n) ∙ ap (λ p. breach_at d.rule p) x.0

first_same : (x y : Found) (P : Rule → Pos → Type 0) → IsFirst x P → IsFirst y P → x ≡ y
first_same None None P h k = refl
first_same None (Some d) P h k = absurd (h d.rule d.at k.0)
first_same (Some b) None P h k = absurd (k b.rule b.at h.0)
first_same (Some b) (Some d) P h k = ap Some (same_breach b d (h.1 d.rule d.at k.0) (k.1 b.rule b.at h.0))

-- ---- what was found

-- what was found counts before the rule at that place, or is that one
abbrev pub Has : Found → Rule → Pos → Type 0
Has None r p = ⊥
Has (Some b) r p = Counts b r p

has_first : (x : Found) → IsFirst x (Has x)
has_first None = λ r p h. h
has_first (Some b) = (inr (refl, omega arith), λ r p h. h)

first_has : (x : Found) (P : Rule → Pos → Type 0) (r : Rule) (p : Pos) → IsFirst x P → P r p → Has x r p
first_has None P r p h q = h r p q
first_has (Some b) P r p h q = h.1 r p q

module _ (broken : Bool) (r : Rule) (p : Pos) (x : Found) where
  -- what is found with one more
  abbrev With : Rule → Pos → Type 0
  With = OrIf (Has x) (broken ≡ true) r p

  with_first : IsFirst (noted_if broken r p x) With
  with_first = noted_if_first broken (broken ≡ true) r p x (Has x) (decides_itself broken) (has_first x)

  pub has_still : (s : Rule) (q : Pos) → Has x s q → Has (noted_if broken r p x) s q
  has_still s q h = first_has (noted_if broken r p x) With s q with_first (inl h)

  pub has_now : broken ≡ true → Has (noted_if broken r p x) r p
  has_now e = first_has (noted_if broken r p x) With r p with_first (inr (refl, (refl, e)))

  pub note_again : Has x r p → noted_if broken r p x ≡ x
  note_again h =
      first_same (noted_if broken r p x) x (Has x)
      (first_iff (noted_if broken r p x) With (Has x) (λ s q k. ⊎_elim (λ m. m) (λ m. subst (λ w. Has x w q) m.0 (subst (λ w. Has x r w) m.1.0 h)) k) (λ s q k. inl k) with_first)
      (has_first x)

-- two of them, in either order
module _ (b : Bool) (r : Rule) (p : Pos) (c : Bool) (s : Rule) (q : Pos) (x : Found) where
  abbrev One : Rule → Pos → Type 0
  One = OrIf (OrIf (Has x) (c ≡ true) s q) (b ≡ true) r p

  abbrev Other : Rule → Pos → Type 0
  Other = OrIf (OrIf (Has x) (b ≡ true) r p) (c ≡ true) s q

  one_first : IsFirst (noted_if b r p (noted_if c s q x)) One
  one_first = noted_if_first b (b ≡ true) r p (noted_if c s q x) (OrIf (Has x) (c ≡ true) s q) (decides_itself b) (noted_if_first c (c ≡ true) s q x (Has x) (decides_itself c) (has_first x))

  other_first : IsFirst (noted_if c s q (noted_if b r p x)) Other
  other_first = noted_if_first c (c ≡ true) s q (noted_if b r p x) (OrIf (Has x) (b ≡ true) r p) (decides_itself c) (noted_if_first b (b ≡ true) r p x (Has x) (decides_itself b) (has_first x))

  pub note_swap : noted_if b r p (noted_if c s q x) ≡ noted_if c s q (noted_if b r p x)
  note_swap =
      first_same (noted_if b r p (noted_if c s q x)) (noted_if c s q (noted_if b r p x)) One one_first
      (first_iff (noted_if c s q (noted_if b r p x)) Other One
      (λ w v k. ⊎_elim (λ m. ⊎_elim (λ n. inl (inl n)) (λ n. inr n) m) (λ m. inl (inr m)) k)
      (λ w v k. ⊎_elim (λ m. ⊎_elim (λ n. inl (inl n)) (λ n. inr n) m) (λ m. inl (inr m)) k) other_first)
