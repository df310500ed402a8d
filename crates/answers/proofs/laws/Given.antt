-- A judgement and what comes after it, twice.
use Rattle.std.proofs.Common.{◌≡◌, inl, inr, Result, Ok, Err, refl, sym, subst}
use Rattle.command_words.specs.Refusal.{Refusal}
use Rattle.command_words.specs.Lines.{Answer, refused}
use Rattle.answers.specs.Answers.{given}

-- two answers are so where both judgements refuse or both give
pub given_both : {A B : Type 0} (J : Result A Refusal → Type 0) (K : Result B Refusal → Type 0) (f : A → Answer → Type 0) (g : B → Answer → Type 0) (G : Answer → Answer → Type 0)
    → ((r s : Refusal) → J (Err r) → K (Err s) → G (refused r) (refused s))
    → ((r : Refusal) (y : B) → J (Err r) → K (Ok y) → ⊥)
    → ((x : A) (s : Refusal) → J (Ok x) → K (Err s) → ⊥)
    → ((x : A) (y : B) → J (Ok x) → K (Ok y) → (a b : Answer) → f x a → g y b → G a b)
    → (a b : Answer) → given J f a → given K g b → G a b
given_both J K f g G ee eo oe oo a b (inl h) (inl k) =
    subst (λ x. G x b) (sym h.2) (subst (λ y. G (refused h.0) y) (sym k.2) (ee h.0 k.0 h.1 k.1))
given_both J K f g G ee eo oe oo a b (inl h) (inr k) = absurd (eo h.0 k.0 h.1 k.1)
given_both J K f g G ee eo oe oo a b (inr h) (inl k) = absurd (oe h.0 k.0 h.1 k.1)
given_both J K f g G ee eo oe oo a b (inr h) (inr k) = oo h.0 k.0 h.1 k.1 a b h.2 k.2

-- there is an answer where the judgement gives something, and there is one after each value
pub given_one : {A : Type 0} (J : Result A Refusal → Type 0) (f : A → Answer → Type 0)
    → ¬ ((r : Result A Refusal) → ¬ J r)
    → ((x : A) → J (Ok x) → ¬ ((a : Answer) → ¬ f x a))
    → ¬ ((a : Answer) → ¬ given J f a)
given_one {A} J f some after none = some by_outcome
  where
    by_outcome : (r : Result A Refusal) → ¬ J r
    by_outcome (Err r) j = none (refused r) (inl (r, j, refl))
    by_outcome (Ok x) j = after x j (λ a h. none a (inr (x, j, h)))

-- there is one with a fact, where the fact is so
pub given_with : {F : Type 0} {P : Answer → Type 0} → F → ¬ ((a : Answer) → ¬ P a) → ¬ ((a : Answer) → ¬ (F × P a))
given_with fact some none = some (λ a h. none a (fact, h))

-- the same, where both look at one thing, which has one outcome
pub given_alike : {A : Type 0} (J : Result A Refusal → Type 0) (f g : A → Answer → Type 0) (G : Answer → Answer → Type 0)
    → ((r s : Refusal) → J (Err r) → J (Err s) → G (refused r) (refused s))
    → ((r : Refusal) (x : A) → J (Err r) → J (Ok x) → ⊥)
    → ((x y : A) → J (Ok x) → J (Ok y) → x ≡ y)
    → ((x : A) → J (Ok x) → (a b : Answer) → f x a → g x b → G a b)
    → (a b : Answer) → given J f a → given J g b → G a b
given_alike J f g G ee eo same oo a b h k =
    given_both J J f g G ee eo (λ x s u v. eo s x v u) (λ x y u v c d p q. oo x u c d p (subst (λ z. g z d) (sym (same x y u v)) q)) a b h k

-- what is so of judgements that give the same, and of what comes after each value
pub given_on : {A : Type 0} (J K : Result A Refusal → Type 0) (f g : A → Answer → Type 0)
    → ((r : Result A Refusal) → J r → K r)
    → ((x : A) (a : Answer) → f x a → g x a)
    → (a : Answer) → given J f a → given K g a
given_on J K f g to after a (inl h) = inl (h.0, to (Err h.0) h.1, h.2)
given_on J K f g to after a (inr h) = inr (h.0, to (Ok h.0) h.1, after h.0 a h.2)
