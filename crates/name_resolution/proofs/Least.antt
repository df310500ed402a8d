-- The breach that going through them keeps is the first.
use Rattle.std.proofs.Common.{◌≡◌, ◌∙◌, ℕ, zero, suc, ◌<◌, ◌≤◌, ◌⊎◌, inl, inr, Bool, true, false, ◌&&◌, ◌||◌, nat_lt, nat_eq, List, [], ◌∷◌, Some, None, Err, refl, sym, subst, arith, slice_index_or, if◌then◌else◌}
use Rattle.std.specs.List.{Contains}
use Rattle.std.proofs.lemmas.List.Elements.{Contains-append_cases, Contains-append_right, Contains-append_left}
use Rattle.std.proofs.lemmas.Bool.Decides.{nat_tests}
use Rattle.c_tree.specs.Tree.{ProgramTree}
use Rattle.name_resolution.specs.declared.breaches.TypeRule.{TypeRule}
use Rattle.name_resolution.specs.declared.breaches.TypeRule.TheVariants.{UnknownName, DuplicateName, NotAnArray, NotAScalar, AssignsCounter, AssignsConst, TooMuchWork}
use Rattle.name_resolution.specs.declared.breaches.Breach.{Breach}
use Rattle.name_resolution.specs.declared.refusals.TypeRefusal.{TypeRefusal}
use Rattle.name_resolution.specs.Programs.{Answers, Resolves, breaches, refusal_of}
use Rattle.name_resolution.specs.First.{number_of, NotAfter, IsFirst, is_before, least_from}

-- ---- the order of breaches

by_numbers : (a b i j : ℕ) (p q r : Bool) → nat_lt a b ≡ p → nat_eq a b ≡ q → nat_lt i j ≡ r → (p || (q && r)) ≡ true → (a < b) ⊎ ((a ≡ b) × (i ≤ j))
by_numbers a b i j true q r hp hq hr h = inl (grind (arith, nat_tests))
by_numbers a b i j false true true hp hq hr h = let e : a ≡ b = grind (arith, nat_tests) in let l : i ≤ j = grind (arith, nat_tests) in inr (e, l)
by_numbers a b i j false true false hp hq hr h = cc
by_numbers a b i j false false r hp hq hr h = cc

not_by_numbers : (a b i j : ℕ) (p q r : Bool) → nat_lt a b ≡ p → nat_eq a b ≡ q → nat_lt i j ≡ r → (p || (q && r)) ≡ false → (b < a) ⊎ ((b ≡ a) × (j ≤ i))
not_by_numbers a b i j true q r hp hq hr h = cc
not_by_numbers a b i j false true true hp hq hr h = cc
not_by_numbers a b i j false true false hp hq hr h = let e : b ≡ a = grind (arith, nat_tests) in let l : j ≤ i = grind (arith, nat_tests) in inr (e, l)
not_by_numbers a b i j false false r hp hq hr h = inl (grind (arith, nat_tests))

before : (a b : Breach) → is_before a b ≡ true → NotAfter a b
before a b h = by_numbers a.at b.at (number_of a.rule) (number_of b.rule) _ _ _ refl refl refl h

not_before : (a b : Breach) → is_before a b ≡ false → NotAfter b a
not_before a b h = not_by_numbers a.at b.at (number_of a.rule) (number_of b.rule) _ _ _ refl refl refl h

not_after_itself : (a : Breach) → NotAfter a a
not_after_itself a = inr (refl, omega arith)

not_after_both : (a b c : Breach) → NotAfter a b → NotAfter b c → NotAfter a c
not_after_both a b c (inl p) (inl q) = inl (omega arith)
not_after_both a b c (inl p) (inr q) = inl (omega (arith, q.0))
not_after_both a b c (inr p) (inl q) = inl (omega (arith, p.0))
not_after_both a b c (inr p) (inr q) = inr (p.0 ∙ q.0, omega (arith, p.1, q.1))

-- ---- what a list of one more holds

one_at : (m r : Breach) (k : ℕ) → k < 1 → slice_index_or (m ∷ []) k r ≡ r → m ≡ r
one_at m r zero l e = e
one_at m r (suc k) l e = absurd (omega arith)

in_front : (m : Breach) (bs : List Breach) (r : Breach) → Contains (m ∷ bs) r → (m ≡ r) ⊎ Contains bs r
in_front m bs r h = by (Contains-append_cases (m ∷ []) bs r h)
  where
    by : Contains (m ∷ []) r ⊎ Contains bs r → (m ≡ r) ⊎ Contains bs r
    by (inl p) = inl (one_at m r p.0 (omega (arith, p.1)) p.2)
    by (inr q) = inr q

first_there : (m : Breach) (bs : List Breach) → Contains (m ∷ bs) m
first_there m bs = (0, omega arith, refl)

-- ---- the first of a list

alone : (a : Breach) → IsFirst (a ∷ []) a
alone a = record { there = first_there a []; first = λ other h. by other (in_front a [] other h) }
  where
    by : (other : Breach) → (a ≡ other) ⊎ Contains [] other → NotAfter a other
    by other (inl e) = subst (λ x. NotAfter a x) e (not_after_itself a)
    by other (inr h) = absurd (omega (arith, h.1))

-- one of two that is not after either stands for both
for_both : (a b m r : Breach) (bs : List Breach) → NotAfter m a → NotAfter m b → Contains (a ∷ b ∷ []) m → IsFirst (m ∷ bs) r → IsFirst (a ∷ b ∷ bs) r
for_both a b m r bs ma mb at h = record { there = there (in_front m bs r h.there); first = λ other o. first other (in_front a (b ∷ bs) other o) }
  where
    there : (m ≡ r) ⊎ Contains bs r → Contains (a ∷ b ∷ bs) r
    there (inl e) = subst (λ x. Contains (a ∷ b ∷ bs) x) e (Contains-append_left (a ∷ b ∷ []) bs m at)
    there (inr p) = Contains-append_right (a ∷ b ∷ []) bs r p

    second : (other : Breach) → (b ≡ other) ⊎ Contains bs other → NotAfter r other
    second other (inl e) = subst (λ x. NotAfter r x) e (not_after_both r m b (h.first m (first_there m bs)) mb)
    second other (inr p) = h.first other (Contains-append_right (m ∷ []) bs other p)

    first : (other : Breach) → (a ≡ other) ⊎ Contains (b ∷ bs) other → NotAfter r other
    first other (inl e) = subst (λ x. NotAfter r x) e (not_after_both r m a (h.first m (first_there m bs)) ma)
    first other (inr p) = second other (in_front b bs other p)

pub kept_is_first : (a r : Breach) (bs : List Breach) → least_from (Some a) bs ≡ Some r → IsFirst (a ∷ bs) r
kept_is_first a r [] h = let e : a ≡ r = cc in subst (λ x. IsFirst (a ∷ []) x) e (alone a)
kept_is_first a r (b ∷ bs) h = by (λ x w. kept_is_first x r bs w) (is_before b a) refl h
  where
    by : ((x : Breach) → least_from (Some x) bs ≡ Some r → IsFirst (x ∷ bs) r) → (t : Bool) → is_before b a ≡ t → least_from (if t then Some b else Some a) bs ≡ Some r → IsFirst (a ∷ b ∷ bs) r
    by rest true e w = for_both a b b r bs (before b a e) (not_after_itself b) (1, omega arith, refl) (rest b w)
    by rest false e w = for_both a b a r bs (not_after_itself a) (not_before b a e) (0, omega arith, refl) (rest a w)

pub least_is_first : (r : Breach) (bs : List Breach) → Some r ≡ least_from None bs → IsFirst bs r
least_is_first r [] h = cc
least_is_first r (b ∷ bs) h = kept_is_first b r bs (sym h)

-- ---- none is kept where there is none

pub keeps_some : (a : Breach) (bs : List Breach) → None ≡ least_from (Some a) bs → ⊥
keeps_some a [] h = cc
keeps_some a (b ∷ bs) h = by (λ x w. keeps_some x bs w) (is_before b a) h
  where
    by : ((x : Breach) → None ≡ least_from (Some x) bs → ⊥) → (t : Bool) → None ≡ least_from (if t then Some b else Some a) bs → ⊥
    by rest true w = rest b w
    by rest false w = rest a w

pub none_kept : (bs : List Breach) → None ≡ least_from None bs → bs ≡ []
none_kept [] h = refl
none_kept (b ∷ bs) h = absurd (keeps_some b bs h)

-- ---- what is answered

at_rule : (p : ProgramTree) (t : ℕ) (r : TypeRule) → IsFirst (breaches p) (record { rule = r; at = t }) → Answers (Resolves p) (Err (refusal_of p.places (record { rule = r; at = t })))
at_rule p t UnknownName f = record { breach = record { rule = UnknownName; at = t }; first = f; refusal = refl }
at_rule p t DuplicateName f = record { breach = record { rule = DuplicateName; at = t }; first = f; refusal = refl }
at_rule p t NotAnArray f = record { breach = record { rule = NotAnArray; at = t }; first = f; refusal = refl }
at_rule p t NotAScalar f = record { breach = record { rule = NotAScalar; at = t }; first = f; refusal = refl }
at_rule p t AssignsCounter f = record { breach = record { rule = AssignsCounter; at = t }; first = f; refusal = refl }
at_rule p t AssignsConst f = record { breach = record { rule = AssignsConst; at = t }; first = f; refusal = refl }
at_rule p t TooMuchWork f = record { breach = record { rule = TooMuchWork; at = t }; first = f; refusal = refl }

pub refuses : (p : ProgramTree) (b : Breach) (r : TypeRefusal) → Some b ≡ least_from None (breaches p) → r ≡ refusal_of p.places b → Answers (Resolves p) (Err r)
refuses p b r h e = subst (λ x. Answers (Resolves p) (Err x)) (sym e) (at_rule p b.at b.rule (least_is_first b (breaches p) h))
