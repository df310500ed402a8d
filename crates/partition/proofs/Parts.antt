-- The two parts of a cut, and what is so of owners after both have theirs.
use Rattle.std.proofs.Common.{Result, Ok, Err, OnOk, ◌≡◌, ◌≢◌, ◌∙◌, ℕ, ℤ, zero, suc, ◌+◌, ◌-◌, ◌*◌, ◌/◌, ◌<◌, ◌≤◌, true, nat_eq, cond, List, ◌++◌, length, get_or, arith, sym, subst, refl, inl, inr, ⊎_elim}
use Rattle.std.specs.List.{All, count_by, sum_by}
use Rattle.std.specs.List.Sorted.{IsPermutation}
use Rattle.std.proofs.lemmas.Bool.{eq-eqb}
use Rattle.std.proofs.lemmas.List.{get_or_default, get_or_append_left, get_or-append-add, length-append}
use Rattle.std.proofs.lemmas.List.Sums.{sum_by-append, get_or-le-sum_by}
use Rattle.std.proofs.lemmas.List.Sorted.{All-permutation, length_permutation, sum_by-IsPermutation}
use Rattle.std.proofs.lemmas.Nat.{le-div}
use Rattle.std.proofs.Math.Nat.{div-mul-le_self, mul-le-mul_right}
use Rattle.partition.specs.Block.{block_start}
use Rattle.partition.specs.Bisect.{IsCut, IsHalved}

-- a later rank's share begins no earlier
pub start_le : (n r i j : ℕ) → 0 < r → i ≤ j → block_start n r i ≤ block_start n r j
start_le n r i j l h =
    let a : i * n / r * r ≤ i * n = div-mul-le_self (i * n) r in
    let b : i * n ≤ j * n = mul-le-mul_right {m = i} {n = j} n h in
    le-div (i * n / r) (j * n) r l (omega (arith, a, b))

all_of : (P : ℕ → Type 0) (xs lower upper : List ℕ) → IsPermutation xs (lower ++ upper) → ((k : ℕ) → k < length xs → P (get_or xs k 0)) → All P (lower ++ upper)
all_of P xs lower upper perm h = All-permutation P xs (lower ++ upper) perm (λ k d l. subst P (get_or_default xs k 0 d l) (h k l))

pub lower_each : (P : ℕ → Type 0) (xs lower upper : List ℕ) → IsPermutation xs (lower ++ upper) → ((k : ℕ) → k < length xs → P (get_or xs k 0)) → (k : ℕ) → k < length lower → P (get_or lower k 0)
lower_each P xs lower upper perm h k l = subst P (get_or_append_left lower upper 0 k l) (all_of P xs lower upper perm h k 0 (omega (arith, l, length-append lower upper)))

pub upper_each : (P : ℕ → Type 0) (xs lower upper : List ℕ) → IsPermutation xs (lower ++ upper) → ((k : ℕ) → k < length xs → P (get_or xs k 0)) → (k : ℕ) → k < length upper → P (get_or upper k 0)
upper_each P xs lower upper perm h k l = subst P (get_or-append-add lower upper k 0) (all_of P xs lower upper perm h (length lower + k) 0 (omega (arith, l, length-append lower upper)))

pub upper_length : (xs lower upper : List ℕ) → IsPermutation xs (lower ++ upper) → length lower + length upper ≡ length xs
upper_length xs lower upper perm = sym (length-append lower upper) ∙ length_permutation xs (lower ++ upper) perm

-- how often each number stands in the parts
pub both_count : (f : ℕ → ℕ) (xs lower upper : List ℕ) → IsPermutation xs (lower ++ upper) → sum_by f lower + sum_by f upper ≡ sum_by f xs
both_count f xs lower upper perm = sym (sum_by-append f lower upper) ∙ sum_by-IsPermutation f xs (lower ++ upper) perm

pub lower_once : (xs lower upper : List ℕ) → IsPermutation xs (lower ++ upper) → ((x : ℕ) → count_by (λ y. nat_eq y x) xs ≤ 1) → (x : ℕ) → count_by (λ y. nat_eq y x) lower ≤ 1
lower_once xs lower upper perm h x = let a = both_count (λ y. cond (nat_eq y x) 1 0) xs lower upper perm in let b = h x in omega (arith, a, b)

pub upper_once : (xs lower upper : List ℕ) → IsPermutation xs (lower ++ upper) → ((x : ℕ) → count_by (λ y. nat_eq y x) xs ≤ 1) → (x : ℕ) → count_by (λ y. nat_eq y x) upper ≤ 1
upper_once xs lower upper perm h x = let a = both_count (λ y. cond (nat_eq y x) 1 0) xs lower upper perm in let b = h x in omega (arith, a, b)

-- a number that stands in a list is counted
stands : (xs : List ℕ) (k x : ℕ) → k < length xs → get_or xs k 0 ≡ x → 1 ≤ count_by (λ y. nat_eq y x) xs
stands xs k x l e =
    let a : cond (nat_eq (get_or xs k 0) x) 1 0 ≤ count_by (λ y. nat_eq y x) xs = get_or-le-sum_by (λ y. cond (nat_eq y x) 1 0) xs k 0 l in
    let t : nat_eq (get_or xs k 0) x ≡ true = eq-eqb (get_or xs k 0) x e in
    subst (λ b. cond b 1 0 ≤ count_by (λ y. nat_eq y x) xs) t a

-- the parts have no element in common
pub apart : (xs lower upper : List ℕ) → IsPermutation xs (lower ++ upper) → ((x : ℕ) → count_by (λ y. nat_eq y x) xs ≤ 1) → (k : ℕ)
    → k < length lower → (j : ℕ) → j < length upper → get_or upper j 0 ≢ get_or lower k 0
apart xs lower upper perm h k l j m = λ e.
    (let x : ℕ = get_or lower k 0 in
    let a = both_count (λ y. cond (nat_eq y x) 1 0) xs lower upper perm in
    let b = h x in
    let p = stands lower k x l refl in
    let q = stands upper j x m e in
    omega (arith, a, b, p, q))

-- owners that agree on a list's elements
pub same_halved : (depth n ranks : ℕ) (values : List ℤ) (dim : ℕ) (f g : ℕ → ℕ) (lo many : ℕ) (xs : List ℕ)
    → ((k : ℕ) → k < length xs → g (get_or xs k 0) ≡ f (get_or xs k 0)) → IsHalved depth n ranks values dim f lo many xs
    → IsHalved depth n ranks values dim g lo many xs
same_halved zero n ranks values dim f g lo many xs e h = h
same_halved (suc depth) n ranks values dim f g lo many xs e h = ⊎_elim
    (λ o. inl (o.0, λ k l. e k l ∙ o.1 k l))
    (λ r. inr (⊎_elim
    (λ z. inl z)
    (λ t. inr (
      t.0,
      t.1,
      t.2,
      t.3,
      same_halved depth n ranks values dim f g lo (many / 2) t.1 (lower_each (λ x. g x ≡ f x) xs t.1 t.2 t.3.along.same e) t.4,
      same_halved depth n ranks values dim f g (lo + many / 2) (many - many / 2) t.2 (upper_each (λ x. g x ≡ f x) xs t.1 t.2 t.3.along.same e) t.5,
    ))
    r))
    h

pub halved_one : (depth n ranks : ℕ) (values : List ℤ) (dim : ℕ) (f : ℕ → ℕ) (lo many : ℕ) (xs : List ℕ) → many ≡ 1 → many ≤ depth
    → ((k : ℕ) → k < length xs → f (get_or xs k 0) ≡ lo) → IsHalved depth n ranks values dim f lo many xs
halved_one zero n ranks values dim f lo many xs o l h = absurd (omega arith)
halved_one (suc depth) n ranks values dim f lo many xs o l h = inl (o, h)

pub halved_none : (depth n ranks : ℕ) (values : List ℤ) (dim : ℕ) (f : ℕ → ℕ) (lo many : ℕ) (xs : List ℕ) → 0 < many → many ≤ depth → length xs ≡ 0 → IsHalved depth n ranks values dim f lo many xs
halved_none zero n ranks values dim f lo many xs o l h = absurd (omega arith)
halved_none (suc depth) n ranks values dim f lo many xs o l h = inr (inl h)

-- after the lower part has its owners, and then the upper
pub halved_both : (depth n ranks : ℕ) (values : List ℤ) (dim : ℕ) (f g : ℕ → ℕ) (lo many : ℕ) (xs lower upper : List ℕ) → 1 < many
    → IsCut values dim (block_start n ranks (lo + many / 2) - block_start n ranks lo) xs lower upper
    → ((x : ℕ) → count_by (λ y. nat_eq y x) xs ≤ 1) → ((d : ℕ) → many / 2 ≤ d → IsHalved d n ranks values dim f lo (many / 2) lower)
    → ((x : ℕ) → ((k : ℕ) → k < length upper → get_or upper k 0 ≢ x) → g x ≡ f x)
    → ((d : ℕ) → many - many / 2 ≤ d → IsHalved d n ranks values dim g (lo + many / 2) (many - many / 2) upper) → many ≤ depth
    → IsHalved depth n ranks values dim g lo many xs
halved_both zero n ranks values dim f g lo many xs lower upper o c once a kept b l = absurd (omega arith)
halved_both (suc depth) n ranks values dim f g lo many xs lower upper o c once a kept b l = inr (inr (
  o,
  lower,
  upper,
  c,
  same_halved depth n ranks values dim f g lo (many / 2) lower (λ k lk. kept (get_or lower k 0) (apart xs lower upper c.along.same once k lk)) (a depth (omega arith)),
  b depth (omega arith),
))

-- the upper part is as long as the upper ranks' shares
pub upper_share : (n r lo many a b c : ℕ) → 0 < r → a + b ≡ c → a ≡ block_start n r (lo + many / 2) - block_start n r lo
    → c ≡ block_start n r (lo + many) - block_start n r lo
    → b ≡ block_start n r (lo + many / 2 + (many - many / 2)) - block_start n r (lo + many / 2)
upper_share n r lo many a b c l e p q =
    let s : lo + many / 2 + (many - many / 2) ≡ lo + many = omega arith in
    let u : block_start n r lo ≤ block_start n r (lo + many / 2) = start_le n r lo (lo + many / 2) l (omega arith) in
    let v : block_start n r (lo + many / 2) ≤ block_start n r (lo + many) = start_le n r (lo + many / 2) (lo + many) l (omega arith) in
    rw s (omega (arith, e, p, q, u, v))

-- the lower part is not longer than the list
pub lower_share : (n r lo many c : ℕ) → 0 < r → c ≡ block_start n r (lo + many) - block_start n r lo → block_start n r (lo + many / 2) - block_start n r lo ≤ c
lower_share n r lo many c l q =
    let u : block_start n r lo ≤ block_start n r (lo + many / 2) = start_le n r lo (lo + many / 2) l (omega arith) in
    let v : block_start n r (lo + many / 2) ≤ block_start n r (lo + many) = start_le n r (lo + many / 2) (lo + many) l (omega arith) in
    omega (arith, q, u, v)

pub on_ok : {A B P Q : Type 0} (r : Result A B) → (P → Q) → OnOk r P → OnOk r Q
on_ok (Ok x) f h = f h
on_ok (Err e) f h = h

pub both_ok : {A B : Type 0} (P Q : Type 0) (r : Result A B) → OnOk r P → OnOk r Q → OnOk r (P × Q)
both_ok P Q (Ok x) h k = (h, k)
both_ok P Q (Err e) h k = h
