-- The parts of two lists, one after the other.
use Rattle.std.proofs.Common.{◌≡◌, ℕ, suc, ◌+◌, List, [], ◌∷◌, ◌++◌, length, subst, arith}
use Rattle.par_exec.specs.Parts.{TakesEach, MadeEach}

module _ {X : Type 0} where
  pub takes_front : (P : ℕ → X → Type 0) (i : ℕ) (a b : List X) → TakesEach P i (a ++ b) → TakesEach P i a
  takes_front P i [] b h = tt
  takes_front P i (x ∷ a) b h = (h.0, takes_front P (suc i) a b h.1)

  pub takes_back : (P : ℕ → X → Type 0) (i : ℕ) (a b : List X) → TakesEach P i (a ++ b) → TakesEach P (i + length a) b
  takes_back P i [] b h = let e : i ≡ i + 0 = omega arith in subst (λ n. TakesEach P n b) e h
  takes_back P i (x ∷ a) b h = let e : suc i + length a ≡ i + suc (length a) = omega arith in subst (λ n. TakesEach P n b) e (takes_back P (suc i) a b h.1)

  pub made_both : (Q : ℕ → X → X → Type 0) (i : ℕ) (a b c d : List X) → MadeEach Q i a c → MadeEach Q (i + length a) b d → MadeEach Q i (a ++ b) (c ++ d)
  made_both Q i [] b [] d h m = let e : i + 0 ≡ i = omega arith in subst (λ n. MadeEach Q n b d) e m
  made_both Q i [] b (y ∷ c) d h m = absurd h
  made_both Q i (x ∷ a) b [] d h m = absurd h
  made_both Q i (x ∷ a) b (y ∷ c) d h m =
      let e : i + suc (length a) ≡ suc i + length a = omega arith in
      (h.0, made_both Q (suc i) a b c d h.1 (subst (λ n. MadeEach Q n b d) e m))
