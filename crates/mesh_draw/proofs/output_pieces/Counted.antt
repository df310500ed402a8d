-- Lines in front of an output are one.
use Rattle.std.proofs.Common.{◌≡◌, ℕ, ◌+◌, ◌<◌, inl, inr, Bool, true, false, cond, List, [], ◌∷◌, ◌++◌, length, drop, refl, sym, ap, ap₂, subst, ◌∙◌, append_assoc, append-nil, arith}
use Rattle.std.proofs.lemmas.List.Sums.{sum_by-append, sum_by-cons}
use Rattle.std.proofs.lemmas.Bool.{eqb-true}
use Rattle.op_num.specs.CutLines.{is_lf}
use Rattle.mesh_draw.specs.Lines.{lines_in, EndsInLf, AreLines}
use Rattle.lemmas.proofs.Lists.{head_same, tail_same}

-- whether a byte is an LF, as a number
step : ℕ → ℕ
step c = cond (is_lf c) 1 0

-- lines of two texts, one behind the other
pub lines-append : (a b : List ℕ) → lines_in (a ++ b) ≡ lines_in a + lines_in b
lines-append a b = sum_by-append (λ c. cond (is_lf c) 1 0) a b

lines-cons : (c : ℕ) (a : List ℕ) → lines_in (c ∷ a) ≡ step c + lines_in a
unfolding step
lines-cons c a = sum_by-cons (λ x. cond (is_lf x) 1 0) c a

-- a byte that is no LF
pub other-cons : (c : ℕ) (a : List ℕ) → (c ≡ 10 → ⊥) → lines_in (c ∷ a) ≡ lines_in a
unfolding step
other-cons c a isnt =
    let whole = lines-cons c a in
    let zero_step : step c ≡ 0 = none (is_lf c) refl in
    omega arith
  where
    none : (t : Bool) → is_lf c ≡ t → ◌≡◌ {A = ℕ} (cond t 1 0) 0
    none true e = absurd (isnt (eqb-true c 10 e))
    none false e = refl

-- in front of the same byte as many stand
pub same-cons : (c : ℕ) (a b : List ℕ) → lines_in a ≡ lines_in b → lines_in (c ∷ a) ≡ lines_in (c ∷ b)
same-cons c a b e = lines-cons c a ∙ ap (λ n. step c + n) e ∙ sym (lines-cons c b)

-- lines behind lines
pub lines_join : (m n : ℕ) (a b : List ℕ) → AreLines m a → AreLines n b → AreLines (m + n) (a ++ b)
lines_join m n a b p q = record { count = lines-append a b ∙ ap₂ (λ x y. x + y) p.count q.count; ends = ends q.ends }
  where
    ends : EndsInLf b → EndsInLf (a ++ b)
    ends (inl e) = subst EndsInLf (sym (ap (λ x. a ++ x) e ∙ append-nil a)) p.ends
    ends (inr (f, e)) = inr (a ++ f, ap (λ x. a ++ x) e ∙ sym (append_assoc a f (10 ∷ [])))

-- a text that isn't empty and ends in an LF has one
some_line : (c : ℕ) (a : List ℕ) → EndsInLf (c ∷ a) → 0 < lines_in (c ∷ a)
some_line c a (inl e) = let none : length (c ∷ a) ≡ 0 = ap length e in absurd (omega arith)
some_line c a (inr (front, e)) =
    let n : lines_in (c ∷ a) ≡ lines_in front + 1 = ap lines_in e ∙ lines-append front (10 ∷ []) in
    omega arith

-- so does what is behind its first byte, or that is nothing
tail_ends : (c : ℕ) (a : List ℕ) → EndsInLf (c ∷ a) → EndsInLf a
tail_ends c a (inl e) = inl (ap (drop 1) e)
tail_ends c a (inr ([], e)) = inl (ap (drop 1) e)
tail_ends c a (inr (z ∷ f, e)) = inr (f, ap (drop 1) e)

-- so many lines stand in front of a text in one way
pub lines_one : (a b r s : List ℕ) (n : ℕ) → a ++ r ≡ b ++ s → AreLines n a → AreLines n b → a ≡ b
lines_one [] [] r s n e p q = refl
lines_one [] (y ∷ b) r s n e p q =
    let some = some_line y b q.ends in
    let none : lines_in [] ≡ 0 = refl in
    let one = p.count in
    let other = q.count in
    absurd (omega arith)
lines_one (x ∷ a) [] r s n e p q =
    let some = some_line x a p.ends in
    let none : lines_in [] ≡ 0 = refl in
    let one = p.count in
    let other = q.count in
    absurd (omega arith)
lines_one (x ∷ a) (y ∷ b) r s n e p q =
    let is : x ≡ y = head_same x y (a ++ r) (b ++ s) e in
    let more : a ++ r ≡ b ++ s = tail_same x y (a ++ r) (b ++ s) e in
    let first : step x ≡ step y = ap step is in
    let one : step x + lines_in a ≡ n = sym (lines-cons x a) ∙ p.count in
    let other : step y + lines_in b ≡ n = sym (lines-cons y b) ∙ q.count in
    let count : lines_in b ≡ lines_in a = omega arith in
    let rest = lines_one a b r s (lines_in a) more (record { count = refl; ends = tail_ends x a p.ends })
    (record { count = count; ends = tail_ends y b q.ends }) in
    rw is (ap (λ xs. y ∷ xs) rest)
