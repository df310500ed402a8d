-- Steps of the loops that append numbers to the lists of ranks.
use Rattle.std.proofs.Common.{◌≡◌, ℕ, ◌+◌, ◌<◌, ◌≤◌, true, false, not, ◌&&◌, cond, nat_eq, List, [], ◌∷◌, ◌++◌, length, set, Vec, refl, sym, ap, ◌∙◌, arith, ⊎_elim}
use Rattle.std.specs.declared.alloc.Global.{Global}
use Rattle.std.proofs.lemmas.Bool.{cases_eq, eq-eqb, ne_eqb, and_parts}
use Rattle.std.proofs.lemmas.List.{append-nil}
use Rattle.lemmas.specs.Below.{row}
use Rattle.local_mesh.specs.RankSet.{has}
use Rattle.local_mesh.specs.declared.rank_sets.rank_set.RankSet.{RankSet}
use Rattle.lemmas.proofs.Rows.{row_push, row_push_left, row_set_same, row_set_other}
use Rattle.std.proofs.Math.Bool.{and-false, and-true}

-- one more empty list
pub empty_more : (xs : List (Vec ℕ Global)) (v : Vec ℕ Global) (n : ℕ) → length xs ≡ n → v.items ≡ [] → ((r : ℕ) → r < n → row xs r ≡ []) → (r : ℕ) → r < n + 1 → row (xs ++ v ∷ []) r ≡ []
empty_more xs v n e q h r l = ⊎_elim
    (λ (s : r ≡ n). rw s (row_push xs v n e ∙ q))
    (λ (m : r ≡ n → ⊥). let lr : r < n = omega arith in row_push_left xs v r (rw e lr) ∙ h r lr)
    (cases_eq r n)

-- one rank's list has the number, and the rank is taken from those left
pub push_step : (lists initial : List (Vec ℕ Global)) (rank number : ℕ) (v : Vec ℕ Global) (ranks rest rest' : RankSet) → length lists ≤ 64
    → rank < length lists → has rest rank ≡ true → has ranks rank ≡ true → v.items ≡ row lists rank ++ number ∷ []
    → ((k : ℕ) → k < 64 → has rest' k ≡ (has rest k && not (nat_eq k rank)))
    → ((r : ℕ) → r < length lists → row lists r ≡ row initial r ++ cond (has ranks r && not (has rest r)) (number ∷ []) []) → (r : ℕ)
    → r < length lists → row (set lists rank v) r ≡ row initial r ++ cond (has ranks r && not (has rest' r)) (number ∷ []) []
push_step lists initial rank number v ranks rest rest' few l t u e without inv r lr = ⊎_elim
    (λ (q : r ≡ rank).
    let gone : has rest' rank ≡ false = without rank (omega arith) ∙ (ap (λ z. has rest rank && not z) (eq-eqb rank rank refl) ∙ and-false (has rest rank)) in
    let was : row lists rank ≡ row initial rank ++ [] = inv rank l ∙ ap (λ z. row initial rank ++ cond z (number ∷ []) []) (ap (λ z. z && not (has rest rank)) u ∙ ap (λ z. not z) t) in
    rw q (row_set_same lists rank v l ∙ (e ∙ (ap (λ z. z ++ number ∷ []) (was ∙ append-nil (row initial rank))
    ∙ sym (ap (λ z. row initial rank ++ cond z (number ∷ []) []) (ap (λ z. z && not (has rest' rank)) u ∙ ap (λ z. not z) gone))))))
    (λ (n : r ≡ rank → ⊥).
    let kept : has rest' r ≡ has rest r = without r (omega arith) ∙ (ap (λ z. has rest r && not z) (ne_eqb r rank n) ∙ and-true (has rest r)) in
    rw kept (row_set_other lists rank r v n ∙ inv r lr))
    (cases_eq r rank)

-- what is left is of the set still
pub rest_step : (ranks rest rest' : RankSet) (rank : ℕ) → ((k : ℕ) → k < 64 → has rest' k ≡ (has rest k && not (nat_eq k rank)))
    → ((r : ℕ) → r < 64 → has rest r ≡ true → has ranks r ≡ true) → (r : ℕ) → r < 64 → has rest' r ≡ true → has ranks r ≡ true
rest_step ranks rest rest' rank without h r l t = h r l (and_parts (has rest r) (not (nat_eq r rank)) (sym (without r l) ∙ t)).0
