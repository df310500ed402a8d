-- What is so of all that a judgement can give, and what was not found.
use Rattle.std.proofs.Common.{◌≡◌, ◌≤◌, ℕ, List, [], ◌∷◌, ◌++◌, Option, Some, None, Ok, Err, Bool, true, false, refl, sym, subst}
use Rattle.std.specs.Prelude.{IfNone, nat_lt}
use Rattle.std.proofs.lemmas.Bool.{ltb-false}
use Rattle.c_tree.specs.declared.lexer.tokens.Pos.{Pos}
use Rattle.bound_program.specs.declared.refusals.refusals.BindRefusal.{BindRefusal}
use Rattle.bound_program.specs.declared.refusals.refusals.Counted.{Counted}
use Rattle.bound_program.specs.declared.refusals.founds.Turn.{Turn}
use Rattle.bound_program.specs.declared.refusals.founds.Found.{Found}
use Rattle.bound_program.specs.Refusals.{Judged, ◌>>=◌, unless, unless_found, first_of, found_in, found_over, found_if}
use Rattle.bound_program.proofs.Public.{answers}

-- what is so of the value, where there is one
abbrev pub Gives : {A : Type 0} → (A → Type 0) → Judged A → Type 0
Gives P (Ok x) = P x
Gives P (Err r) = Unit {0}

pub gives_then : {A B : Type 0} (P : A → Type 0) (Q : B → Type 0) (r : Judged A) (f : A → Judged B) → Gives P r → ((x : A) → P x → Gives Q (f x)) → Gives Q (r >>= f)
gives_then P Q (Ok x) f h k = k x h
gives_then P Q (Err e) f h k = tt

pub gives_weaker : {A : Type 0} (P Q : A → Type 0) (r : Judged A) → Gives P r → ((x : A) → P x → Q x) → Gives Q r
gives_weaker P Q (Ok x) h k = k x h
gives_weaker P Q (Err e) h k = tt

pub gives_any : {A : Type 0} (r : Judged A) → Gives (λ x. Unit {0}) r
gives_any (Ok x) = tt
gives_any (Err e) = tt

pub nothing_found : (all : List Found) → first_of all ≡ None → all ≡ []
nothing_found all e = subst (λ o. IfNone o (all ≡ [])) e (answers all).1

pub gives_unless : {A : Type 0} (P : A → Type 0) (all : List Found) (x : A) → (all ≡ [] → P x) → Gives P (unless_found all x)
gives_unless P all x h = by (first_of all) refl
  where
    by : (f : Option Found) → first_of all ≡ f → Gives P (unless f x)
    by None e = h (nothing_found all e)
    by (Some f) e = tt

-- ---- lists without an element

abbrev pub IsNil : {X : Type 0} → List X → Type 0
IsNil [] = Unit {0}
IsNil (x ∷ xs) = ⊥

pub left_nil : {X : Type 0} (xs ys : List X) → xs ++ ys ≡ [] → xs ≡ []
left_nil [] ys e = refl
left_nil (x ∷ xs) ys e = absurd (subst IsNil (sym e) tt)

pub right_nil : {X : Type 0} (xs ys : List X) → xs ++ ys ≡ [] → ys ≡ []
right_nil [] ys e = e
right_nil (x ∷ xs) ys e = absurd (subst IsNil (sym e) tt)

-- ---- tests that did not hold

pub not_in : (turn : Turn) (b : Bool) (t : ℕ) (r : BindRefusal) → found_in turn b t r ≡ [] → b ≡ false
not_in turn false t r e = refl
not_in turn true t r e = absurd (subst IsNil (sym e) tt)

pub not_over : (turn : Turn) (limit size t : ℕ) (c : Counted) → found_over turn limit size t c ≡ [] → size ≤ limit
not_over turn limit size t c e = ltb-false limit size (not_in turn (nat_lt limit size) t _ e)

pub not_if : (places : List Pos) (b : Bool) (t : ℕ) (r : Pos → BindRefusal) → found_if places b t r ≡ [] → b ≡ false
not_if places b t r e = not_in _ b t _ e
