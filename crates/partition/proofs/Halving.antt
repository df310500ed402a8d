-- How many elements each rank gets by halving.
use Rattle.std.proofs.Common.{◌≡◌, ◌⊎◌, ◌∙◌, ℕ, ℤ, zero, suc, ◌+◌, ◌-◌, ◌*◌, ◌/◌, ◌<◌, ◌≤◌, Bool, true, false, nat_eq, cond, min, List, length, get_or, take, arith, ap, sym, subst, refl, inl, inr, ⊎_elim}
use Rattle.std.specs.List.{count_by}
use Rattle.std.proofs.lemmas.Bool.{cases_lt, eq-eqb, eqb-true, false_from_ne_true}
use Rattle.std.proofs.lemmas.List.{take_all}
use Rattle.std.proofs.lemmas.List.Sums.{sum_by_more, count_by_more_yes, count_by_more_no, count_by-le-length}
use Rattle.std.proofs.Math.Nat.{mul-div_cancel_left, div-le_of_le-mul}
use Rattle.lemmas.specs.Below.{count_below}
use Rattle.partition.specs.Block.{block_start, share}
use Rattle.partition.specs.Bisect.{IsHalved, IsBisected}
use Rattle.partition.proofs.Shares.{interval}
use Rattle.partition.proofs.Parts.{start_le, both_count, upper_length, upper_share}

-- counts over the list of all elements are counts of numbers below n
count_more : (p : ℕ → Bool) (xs : List ℕ) (n : ℕ) → n ≤ length xs → ((k : ℕ) → k < length xs → get_or xs k 0 ≡ k) → count_by p (take n xs) ≡ count_below n p
count_more p xs zero l h = refl
count_more p xs (suc n) l h =
    let s : suc n ≡ n + 1 = omega arith in
    let a : count_by p (take (n + 1) xs) ≡ count_by p (take n xs) + cond (p (get_or xs n 0)) 1 0 = sum_by_more (λ x. cond (p x) 1 0) xs n 0 (omega (arith, l)) in
    let b : count_by p (take n xs) ≡ count_below n p = count_more p xs n (omega (arith, l)) h in
    let c : get_or xs n 0 ≡ n = h n (omega (arith, l)) in
    let d : count_by p (take (n + 1) xs) ≡ count_below n p + cond (p n) 1 0 = a ∙ rw (b, c) refl in
    subst (λ (z : ℕ). count_by p (take z xs) ≡ count_below n p + cond (p n) 1 0) (sym s) d

pub count_all : (p : ℕ → Bool) (xs : List ℕ) (n : ℕ) → length xs ≡ n → ((k : ℕ) → k < n → get_or xs k 0 ≡ k) → count_by p xs ≡ count_below n p
count_all p xs n e h = ap (count_by p) (sym (take_all n xs (omega (arith, e)))) ∙ count_more p xs n (omega (arith, e)) (λ k l. h k (omega (arith, l, e)))

-- each number stands once in the list of all elements
pub all_once : (xs : List ℕ) (n : ℕ) → length xs ≡ n → ((k : ℕ) → k < n → get_or xs k 0 ≡ k) → (x : ℕ) → count_by (λ y. nat_eq y x) xs ≤ 1
all_once xs n e h x =
    let a : count_below n (λ y. nat_eq y x) ≡ min n (x + 1) - min n x =
    interval n x (x + 1) (λ y. nat_eq y x) (λ y l u v. eq-eqb y x (omega arith))
    (λ y l t. (let q : y ≡ x = eqb-true y x t in (omega (arith, q), omega (arith, q)))) in
    rw (count_all (λ y. nat_eq y x) xs n e h) (omega (arith, a))

-- where all pass, or none
count_yes : (p : ℕ → Bool) (xs : List ℕ) (n : ℕ) → n ≤ length xs → ((k : ℕ) → k < length xs → p (get_or xs k 0) ≡ true) → count_by p (take n xs) ≡ n
count_yes p xs zero l h = refl
count_yes p xs (suc n) l h =
    let s : suc n ≡ n + 1 = omega arith in
    let a : count_by p (take (n + 1) xs) ≡ count_by p (take n xs) + 1 = count_by_more_yes p xs n 0 (omega (arith, l)) (h n (omega (arith, l))) in
    let b : count_by p (take n xs) ≡ n = count_yes p xs n (omega (arith, l)) h in
    subst (λ (z : ℕ). count_by p (take z xs) ≡ z) (sym s) (omega (arith, a, b))

count_no : (p : ℕ → Bool) (xs : List ℕ) (n : ℕ) → n ≤ length xs → ((k : ℕ) → k < length xs → p (get_or xs k 0) ≡ false) → count_by p (take n xs) ≡ 0
count_no p xs zero l h = refl
count_no p xs (suc n) l h =
    let s : suc n ≡ n + 1 = omega arith in
    let a : count_by p (take (n + 1) xs) ≡ count_by p (take n xs) = count_by_more_no p xs n 0 (omega (arith, l)) (h n (omega (arith, l))) in
    let b : count_by p (take n xs) ≡ 0 = count_no p xs n (omega (arith, l)) h in
    subst (λ (z : ℕ). count_by p (take z xs) ≡ 0) (sym s) (a ∙ b)

all_yes : (p : ℕ → Bool) (xs : List ℕ) → ((k : ℕ) → k < length xs → p (get_or xs k 0) ≡ true) → count_by p xs ≡ length xs
all_yes p xs h = ap (count_by p) (sym (take_all (length xs) xs (omega arith))) ∙ count_yes p xs (length xs) (omega arith) h

all_no : (p : ℕ → Bool) (xs : List ℕ) → ((k : ℕ) → k < length xs → p (get_or xs k 0) ≡ false) → count_by p xs ≡ 0
all_no p xs h = ap (count_by p) (sym (take_all (length xs) xs (omega arith))) ∙ count_no p xs (length xs) (omega arith) h

-- of one rank that has all
one_share : (n r lo many : ℕ) (f : ℕ → ℕ) (xs : List ℕ) (i : ℕ) → many ≡ 1 → length xs ≡ block_start n r (lo + many) - block_start n r lo
    → ((k : ℕ) → k < length xs → f (get_or xs k 0) ≡ lo) → (lo ≤ i → i < lo + many → count_by (λ x. nat_eq (f x) i) xs ≡ share n r i)
    × ((i < lo) ⊎ (lo + many ≤ i) → count_by (λ x. nat_eq (f x) i) xs ≡ 0)
one_share n r lo many f xs i o e h = (
  λ a b. (let t : i ≡ lo = omega (arith, a, b, o) in
      let w : lo + many ≡ i + 1 = omega (arith, t, o) in
      let u : count_by (λ x. nat_eq (f x) i) xs ≡ length xs = all_yes (λ x. nat_eq (f x) i) xs (λ k l. eq-eqb (f (get_or xs k 0)) i (h k l ∙ sym t)) in
      u ∙ (subst (λ (z : ℕ). length xs ≡ block_start n r z - block_start n r i) w (subst (λ (z : ℕ). length xs ≡ block_start n r (lo + many) - block_start n r z) (sym t) e))),
  λ a. (let t : i ≡ lo → ⊥ = λ q. omega (arith, a, q, o) in
      all_no (λ x. nat_eq (f x) i) xs (λ k l. false_from_ne_true (nat_eq (f (get_or xs k 0)) i) (λ y. t (sym (eqb-true (f (get_or xs k 0)) i y) ∙ h k l)))),
)

none_share : (n r lo many : ℕ) (f : ℕ → ℕ) (xs : List ℕ) (i : ℕ) → 0 < r → length xs ≡ 0
    → length xs ≡ block_start n r (lo + many) - block_start n r lo
    → (lo ≤ i → i < lo + many → count_by (λ x. nat_eq (f x) i) xs ≡ share n r i)
    × ((i < lo) ⊎ (lo + many ≤ i) → count_by (λ x. nat_eq (f x) i) xs ≡ 0)
none_share n r lo many f xs i l z e =
    let c : count_by (λ x. nat_eq (f x) i) xs ≤ length xs = count_by-le-length (λ x. nat_eq (f x) i) xs in (
      λ a b. (let p = start_le n r lo i l a in
          let q = start_le n r (i + 1) (lo + many) l (omega (arith, b)) in
          let s = start_le n r i (i + 1) l (omega arith) in
          omega (arith, c, z, e, p, q, s)),
      λ a. omega (arith, c, z),
    )

-- each rank has its share, and no other rank has any
pub halved_shares : (depth n r : ℕ) (values : List ℤ) (dim : ℕ) (f : ℕ → ℕ) (lo many : ℕ) (xs : List ℕ) → 0 < r
    → length xs ≡ block_start n r (lo + many) - block_start n r lo → IsHalved depth n r values dim f lo many xs → (i : ℕ)
    → (lo ≤ i → i < lo + many → count_by (λ x. nat_eq (f x) i) xs ≡ share n r i)
    × ((i < lo) ⊎ (lo + many ≤ i) → count_by (λ x. nat_eq (f x) i) xs ≡ 0)
halved_shares zero n r values dim f lo many xs l e h i = absurd h
halved_shares (suc depth) n r values dim f lo many xs l e h i = ⊎_elim
    (λ o. one_share n r lo many f xs i o.0 e o.1)
    (λ s. ⊎_elim
    (λ z. none_share n r lo many f xs i l z e)
    (λ t.
    let perm = t.3.along.same in
    let c : count_by (λ x. nat_eq (f x) i) t.1 + count_by (λ x. nat_eq (f x) i) t.2 ≡ count_by (λ x. nat_eq (f x) i) xs = both_count (λ x. cond (nat_eq (f x) i) 1 0) xs t.1 t.2 perm in
    let u = upper_share n r lo many (length t.1) (length t.2) (length xs) l (upper_length xs t.1 t.2 perm) t.3.count e in
    let a = halved_shares depth n r values dim f lo (many / 2) t.1 l t.3.count t.4 i in
    let b = halved_shares depth n r values dim f (lo + many / 2) (many - many / 2) t.2 l u t.5 i in (
      λ p q. ⊎_elim
          (λ (v : i < lo + many / 2). let x = a.0 p v in let y = b.1 (inl v) in omega (arith, c, x, y))
          (λ (v : lo + many / 2 ≤ i). let x = a.1 (inr v) in let y = b.0 v (omega (arith, q)) in omega (arith, c, x, y))
          (cases_lt i (lo + many / 2)),
      λ w. ⊎_elim
          (λ (v : i < lo). let x = a.1 (inl v) in let y = b.1 (inl (omega (arith, v))) in omega (arith, c, x, y))
          (λ (v : lo + many ≤ i). let x = a.1 (inr (omega (arith, v))) in let y = b.1 (inr (omega (arith, v))) in omega (arith, c, x, y))
          w,
    ))
    s)
    h

-- the first block begins at 0, and the last ends at n
whole : (n r : ℕ) → 0 < r → n ≡ block_start n r (0 + r) - block_start n r 0
whole n r l =
    let a : r * n / r ≡ n = mul-div_cancel_left n l in
    let b : 0 * n / r ≤ 0 = div-le_of_le-mul r (omega arith) in
    let s : 0 + r ≡ r = omega arith in
    rw s (omega (arith, a, b))

pub bisected : (n r : ℕ) (values : List ℤ) (dim : ℕ) (owners xs : List ℕ) → 0 < r → length xs ≡ n → ((x : ℕ) → x < n → get_or xs x 0 ≡ x)
    → IsHalved r n r values dim (λ x. get_or owners x 0) 0 r xs → IsBisected n r values dim owners
bisected n r values dim owners xs l e each h = record {
  elements = xs;
  size = e;
  each = each;
  halved = h;
  shares = λ i li. sym (count_all (λ x. nat_eq (get_or owners x 0) i) xs n e each)
      ∙ (halved_shares r n r values dim (λ x. get_or owners x 0) 0 r xs l (e ∙ whole n r l) h i).0 (omega arith) (omega (arith, li));
}
