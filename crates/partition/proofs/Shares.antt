-- One more element or set given out, and the size of a block.
use Rattle.std.proofs.Common.{◌≡◌, ℕ, zero, suc, ◌+◌, ◌-◌, ◌*◌, ◌<◌, ◌≤◌, min, Bool, true, false, nat_eq, List, [], ◌∷◌, ◌++◌, length, get_or, sym, ◌∙◌, arith, ⊎_elim, subst}
use Rattle.std.proofs.lemmas.Bool.{cases_eq, cases_lt, cases_Bool, eq-eqb, eqb-true}
use Rattle.std.proofs.lemmas.List.{get_or_push, get_or_append_left}
use Rattle.std.proofs.Math.Nat.{div-le_of_le-mul, mul-le-mul_right}
use Rattle.lemmas.specs.Below.{count_below}
use Rattle.partition.specs.Block.{InBlock, share, block_start}

-- what is so of each item is so with one more
pub each_more : (xs : List ℕ) (y n : ℕ) (P : ℕ → ℕ → Type 0) → length xs ≡ n → ((x : ℕ) → x < n → P x (get_or xs x 0)) → P n y → (x : ℕ) → x < n + 1 → P x (get_or (xs ++ y ∷ []) x 0)
each_more xs y n P e h q x l = ⊎_elim
    (λ (t : x ≡ n). subst (λ z. P z (get_or (xs ++ y ∷ []) z 0)) (sym t) (subst (λ z. P n z) (sym (get_or_push xs y 0 n e)) q))
    (λ (t : x ≡ n → ⊥). let lx : x < n = omega arith in subst (λ z. P x z) (sym (get_or_append_left xs (y ∷ []) 0 x (rw e lx))) (h x lx))
    (cases_eq x n)

-- how many numbers below n lie between two bounds
pub interval : (n a b : ℕ) (p : ℕ → Bool) → ((x : ℕ) → x < n → a ≤ x → x < b → p x ≡ true) → ((x : ℕ) → x < n → p x ≡ true → (a ≤ x) × (x < b)) → count_below n p ≡ min n b - min n a
interval zero a b p h k = omega arith
interval (suc n) a b p h k =
    let r : count_below n p ≡ min n b - min n a = interval n a b p (λ x lx. h x (omega arith)) (λ x lx. k x (omega arith)) in
    ⊎_elim
    (λ (e : p n ≡ true). let w = k n (omega arith) e in rw e (omega (arith, w.0, w.1, r)))
    (λ (e : p n ≡ false).
    let no : a ≤ n → n < b → ⊥ = λ u v. (let t : true ≡ false = sym (h n (omega arith) u v) ∙ e in cc) in
    rw e (⊎_elim
    (λ (u : n < a). omega arith)
    (λ (u : a ≤ n). ⊎_elim (λ (v : n < b). absurd (no u v)) (λ (v : b ≤ n). omega arith) (cases_lt n b))
    (cases_lt n a)))
    (cases_Bool (p n))

-- a block ends among the n elements
block_end : (n ranks i : ℕ) → i < ranks → block_start n ranks (i + 1) ≤ n
block_end n ranks i l = div-le_of_le-mul ranks {m = (i + 1) * n} {n = n} (mul-le-mul_right {m = i + 1} {n = ranks} n (omega arith))

-- a rank has as many elements as its block is long
pub share_count : (n ranks i : ℕ) (f : ℕ → ℕ) → i < ranks → ((x : ℕ) → x < n → InBlock n ranks (f x) x)
    → ((x k : ℕ) → x < n → InBlock n ranks k x → k ≡ f x) → count_below n (λ x. nat_eq (f x) i) ≡ share n ranks i
share_count n ranks i f l block only =
    let e : block_start n ranks (i + 1) ≤ n = block_end n ranks i l in
    let m : min n (block_start n ranks (i + 1)) - min n (block_start n ranks i) ≡ block_start n ranks (i + 1) - block_start n ranks i = omega (arith, e) in
    interval n (block_start n ranks i) (block_start n ranks (i + 1)) (λ x. nat_eq (f x) i)
    (λ x lx u v. eq-eqb (f x) i (sym (only x i lx (u, v))))
    (λ x lx t. subst (λ z. InBlock n ranks z x) (eqb-true (f x) i t) (block x lx))
    ∙ m
