-- What a turn takes, by the ranks that it may take a step of.
use Rattle.std.proofs.Common.{◌≡◌, ℕ, zero, suc, ◌+◌, ◌<◌, ◌≤◌, Bool, true, false, cond, refl, sym, ap, ◌∙◌, arith, add-one, ⊎_elim, List, [], ◌∷◌, ◌++◌}
use Rattle.std.proofs.lemmas.Bool.{lt-ltb, le-ltb, cases_eq, false≢true}
use Rattle.schedule_steps.specs.declared.step.Step.{Step}
use Rattle.schedule_steps.specs.Drawn.{numbers, is_early, picked}
use Rattle.step_orders.specs.declared.drawn.turns.Turn.TheVariants.{Over, Join, Rank}
use Rattle.step_orders.specs.Rests.{can_go}
use Rattle.step_orders.specs.TurnOf.{turn_among, turn_of}

-- one more number
pub push_number : (t : ℕ → Bool) (n : ℕ) (b : Bool) (xs ys : List ℕ) → xs ≡ numbers t n → b ≡ t n → ys ≡ xs ++ cond b (n ∷ []) [] → ys ≡ numbers t (n + 1)
push_number t n b xs ys e h is =
    is ∙ (ap (λ z. z ++ cond b (n ∷ []) []) e ∙ (ap (λ z. numbers t n ++ cond z (n ∷ []) []) h ∙ ap (λ z. numbers t z) (sym (add-one n))))

-- no number is there, and the next isn't either
pub none_more : (t : ℕ → Bool) (n : ℕ) → numbers t n ≡ [] → t n ≡ false → numbers t (n + 1) ≡ []
none_more t n e f = ap (λ z. numbers t z) (add-one n) ∙ (ap (λ z. z ++ cond (t n) (n ∷ []) []) e ∙ ap (λ b. cond b (n ∷ []) []) f)

-- a number is there
pub some_there : (t : ℕ → Bool) (n r : ℕ) → r < n → t r ≡ true → numbers t n ≡ [] → ⊥
some_there t zero r lt h e = absurd (omega arith)
some_there t (suc n) r lt h e = ⊎_elim
    (λ (i : r ≡ n). last (numbers t n) (t n) (sym (ap t i) ∙ h) e)
    (λ (ne : r ≡ n → ⊥). some_there t n r (omega arith) h (front (numbers t n) (cond (t n) (n ∷ []) []) e))
    (cases_eq r n)
  where
    front : (a b : List ℕ) → a ++ b ≡ [] → a ≡ []
    front [] b e = refl
    front (x ∷ a) b e = absurd (let w : x ∷ (a ++ b) ≡ [] = e in cc)

    last : (a : List ℕ) (b : Bool) → b ≡ true → a ++ cond b (n ∷ []) [] ≡ [] → ⊥
    last [] true i e = (let w : n ∷ [] ≡ [] = e in cc)
    last (x ∷ a) true i e = (let w : x ∷ (a ++ (n ∷ [])) ≡ [] = e in cc)
    last a false i e = false≢true i

module _ (rest : ℕ → List Step) (m : Step → Bool) (number join items ranks : ℕ) where
  abbrev early : List ℕ
  early = numbers (λ r. is_early join (rest r)) ranks

  abbrev going : List ℕ
  going = numbers (λ r. can_go m join (rest r)) ranks

  pub takes_join : early ≡ [] → join < items → Join ≡ turn_of rest m number join items ranks
  takes_join e lt = sym (ap (λ z. turn_among z going number join items) e ∙ ap (λ b. cond b Join Over) (lt-ltb join items lt))

  pub takes_none : early ≡ [] → items ≤ join → Over ≡ turn_of rest m number join items ranks
  takes_none e le = sym (ap (λ z. turn_among z going number join items) e ∙ ap (λ b. cond b Join Over) (le-ltb join items le))

  pub takes_step : (ys : List ℕ) → (early ≡ [] → ⊥) → ys ≡ going → Rank (picked number ys) ≡ turn_of rest m number join items ranks
  takes_step ys n f = ap (λ z. Rank (picked number z)) f ∙ some early n
    where
      some : (xs : List ℕ) → (xs ≡ [] → ⊥) → Rank (picked number going) ≡ turn_among xs going number join items
      some [] n = absurd (n refl)
      some (x ∷ xs) n = refl
