-- A place for each cell, one after another.
use Rattle.std.proofs.Common.{◌≡◌, ◌≢◌, ◌+◌, ◌++◌, ℕ, zero, suc, List, [], ◌∷◌, length, refl, sym, ap, ◌∙◌, subst, arith, append_assoc}
use Rattle.std.specs.Prelude.{codes}
use Rattle.checkpoint.specs.Cut.{more_places, places}

abbrev pub more-row : ℕ → List ℕ
more-row zero = []
more-row (suc n) = codes " %d" ++ more-row n

-- so many, between single spaces
abbrev pub row : ℕ → List ℕ
row zero = []
row (suc n) = codes "%d" ++ more-row n

more-last : (n : ℕ) → more-row (suc n) ≡ more-row n ++ codes " %d"
more-last zero = refl
more-last (suc n) = ap (λ l. codes " %d" ++ l) (more-last n)

pub row-first : (i : ℕ) → i ≡ 0 → row (i + 1) ≡ row i ++ codes "%d"
row-first i e = subst (λ k. row (k + 1) ≡ row k ++ codes "%d") (sym e) refl

pub row-next : (i : ℕ) → i ≢ 0 → row (i + 1) ≡ (row i ++ 32 ∷ []) ++ codes "%d"
row-next zero h = absurd (h refl)
row-next (suc i) h =
    let e : suc i + 1 ≡ suc (suc i) = omega arith in
    ap row e ∙ ap (λ l. codes "%d" ++ l) (more-last i) ∙ sym (append_assoc (row (suc i)) (32 ∷ []) (codes "%d"))

more-is : (cells : List ℕ) → more-row (length cells) ≡ more_places cells
more-is [] = refl
more-is (c ∷ cs) = ap (λ l. codes " %d" ++ l) (more-is cs)

pub row-is : (cells : List ℕ) (n : ℕ) → length cells ≡ n → row n ++ codes "\n" ≡ places cells
row-is [] n e = ap (λ k. row k ++ codes "\n") (sym e)
row-is (c ∷ cs) n e = ap (λ k. row k ++ codes "\n") (sym e) ∙ ap (λ l. codes "%d" ++ (l ++ codes "\n")) (more-is cs)

-- ---- the text so far

pub put-first : (a t v : List ℕ) (i : ℕ) → i ≡ 0 → t ≡ a ++ row i → v ≡ t ++ codes "%d" → v ≡ a ++ row (i + 1)
put-first a t v i e h g = g ∙ ap (λ l. l ++ codes "%d") h ∙ append_assoc a (row i) (codes "%d") ∙ ap (λ l. a ++ l) (sym (row-first i e))

pub put-next : (a t u v : List ℕ) (i : ℕ) → i ≢ 0 → t ≡ a ++ row i → u ≡ t ++ 32 ∷ [] → v ≡ u ++ codes "%d" → v ≡ a ++ row (i + 1)
put-next a t u v i n h s g =
    g ∙ ap (λ l. l ++ codes "%d") (s ∙ ap (λ l. l ++ 32 ∷ []) h ∙ append_assoc a (row i) (32 ∷ []))
    ∙ append_assoc a (row i ++ 32 ∷ []) (codes "%d") ∙ ap (λ l. a ++ l) (sym (row-next i n))

pub put-last : (a t v : List ℕ) (i n : ℕ) (cells : List ℕ) → i ≡ n → length cells ≡ n → t ≡ a ++ row i → v ≡ t ++ codes "\n" → v ≡ a ++ places cells
put-last a t v i n cells e l h g =
    g ∙ ap (λ k. k ++ codes "\n") h ∙ append_assoc a (row i) (codes "\n") ∙ ap (λ k. a ++ k) (row-is cells i (l ∙ sym e))
