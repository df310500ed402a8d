-- Owners by halving.
use Rattle.std.proofs.Common.{◌≡◌, ◌≢◌, ◌<◌, ◌≤◌, ◌+◌, ◌-◌, ◌*◌, ◌/◌, ℕ, ℤ, zero, suc, true, false, cond, nat_eq, List, length, get_or, refl, sym, ◌∙◌, subst, arith, ⊎_elim}
use Rattle.std.specs.List.{count_by}
use Rattle.std.proofs.lemmas.Bool.{cases_eq, cases_Bool, false_from_ne_true}
use Rattle.std.proofs.lemmas.List.{get_or_default}
use Rattle.std.proofs.Math.Nat.{div-le_of_le-mul}
use Rattle.partition.specs.Block.{block_start}
use Rattle.partition.specs.Bisect.{IsHalved, IsBisected}
use Rattle.partition.proofs.Public.{same_halved, halved_one, halved_none, halved_both, lower_once, upper_once, lower_share, upper_share, upper_length, all_once, bisected}
use Rattle.loop_plan.proofs.plan_exists.Built.{table, length_table, table_at}
use Rattle.loop_plan.proofs.plan_exists.Turns.{has, has_holds, has_found}
use Rattle.loop_plan.proofs.plan_exists.Numbered.{counting, kept, counting_is}
use Rattle.loop_plan.proofs.plan_exists.Blocks.{whole}
use Rattle.loop_plan.proofs.plan_exists.Cut.{Cut, cut}

module _ (ranks : ℕ) (some : 0 < ranks) (n : ℕ) (values : List ℤ) (dim : ℕ) (axes : 0 < dim) where
  -- owners for a list that so many ranks from lo on share
  record Halves (lo many : ℕ) (xs : List ℕ) : Type 0 where
    owner : ℕ → ℕ
    below : (x : ℕ) → owner x < lo + many
    halved : (depth : ℕ) → many ≤ depth → IsHalved depth n ranks values dim owner lo many xs

  module _ (lo many : ℕ) (xs lower upper : List ℕ) (more : 1 < many) (a : Halves lo (many / 2) lower) (b : Halves (lo + many / 2) (many - many / 2) upper) where
    joined : ℕ → ℕ
    joined x = cond (has upper x) (b.owner x) (a.owner x)

    joined_below : (x : ℕ) → joined x < lo + many
    unfolding joined
    joined_below x = ⊎_elim
        (λ (h : has upper x ≡ true). rw h (let l = b.below x in omega arith))
        (λ (h : has upper x ≡ false). rw h (let l = a.below x in omega arith))
        (cases_Bool (has upper x))

    joined_upper : (k : ℕ) → k < length upper → joined (get_or upper k 0) ≡ b.owner (get_or upper k 0)
    unfolding joined
    joined_upper k l = rw (has_found upper (get_or upper k 0) (k, l, get_or_default upper k (get_or upper k 0) 0 l)) refl

    joined_other : (x : ℕ) → ((k : ℕ) → k < length upper → get_or upper k 0 ≢ x) → joined x ≡ a.owner x
    unfolding joined
    joined_other x absent =
        let h : has upper x ≡ false = false_from_ne_true (has upper x) (λ t. (let c = has_holds upper x t in absent c.0 c.1 (get_or_default upper c.0 0 x c.1 ∙ c.2))) in
        rw h refl

  halves_one : (lo many : ℕ) (xs : List ℕ) → many ≡ 1 → Halves lo many xs
  halves_one lo many xs e = record {
    owner = λ x. lo;
    below = λ x. omega arith;
    halved = λ depth l. halved_one depth n ranks values dim (λ x. lo) lo many xs e l (λ k m. refl);
  }

  halves_none : (lo many : ℕ) (xs : List ℕ) → 0 < many → length xs ≡ 0 → Halves lo many xs
  halves_none lo many xs l e = record {
    owner = λ x. lo;
    below = λ x. omega arith;
    halved = λ depth m. halved_none depth n ranks values dim (λ x. lo) lo many xs l m e;
  }

  abbrev Once : List ℕ → Type 0
  Once xs = (x : ℕ) → count_by (λ y. nat_eq y x) xs ≤ 1

  abbrev IsShare : ℕ → ℕ → List ℕ → Type 0
  IsShare lo many xs = length xs ≡ block_start n ranks (lo + many) - block_start n ranks lo

  first_many : ℕ → ℕ → ℕ
  first_many lo many = block_start n ranks (lo + many / 2) - block_start n ranks lo

  -- both parts have owners
  halves_both : (lo many : ℕ) (xs : List ℕ) (l : 0 < length xs) → 1 < many → Once xs → (c : Cut values dim xs l (first_many lo many))
      → Halves lo (many / 2) c.lower → Halves (lo + many / 2) (many - many / 2) c.upper → Halves lo many xs
  unfolding first_many
  halves_both lo many xs l more once c a b = record {
    owner = joined lo many xs c.lower c.upper more a b;
    below = joined_below lo many xs c.lower c.upper more a b;
    halved = λ depth d. halved_both depth n ranks values dim a.owner (joined lo many xs c.lower c.upper more a b) lo many xs c.lower c.upper more c.is once
        a.halved
        (joined_other lo many xs c.lower c.upper more a b)
        (λ e m. same_halved e n ranks values dim b.owner (joined lo many xs c.lower c.upper more a b) (lo + many / 2) (many - many / 2)
        c.upper (joined_upper lo many xs c.lower c.upper more a b) (b.halved e m))
        d;
  }

  halve : (depth lo many : ℕ) (xs : List ℕ) → many ≤ depth → 0 < many → Once xs → IsShare lo many xs → Halves lo many xs
  unfolding first_many
  halve zero lo many xs d l once share = absurd (omega arith)
  halve (suc depth) lo many xs d l once share = ⊎_elim
      (λ (one : many ≡ 1). halves_one lo many xs one)
      (λ (more : many ≡ 1 → ⊥). ⊎_elim
      (λ (none : length xs ≡ 0). halves_none lo many xs l none)
      (λ (full : length xs ≡ 0 → ⊥).
      let has_some : 0 < length xs = omega arith in
      let c = cut values dim xs has_some axes (first_many lo many) (lower_share n ranks lo many (length xs) some share) in
      let p = c.is.along.same in
      halves_both lo many xs has_some (omega arith) once c
      (halve depth lo (many / 2) c.lower (omega arith) (omega arith) (lower_once xs c.lower c.upper p once) c.is.count)
      (halve depth (lo + many / 2) (many - many / 2) c.upper (omega arith) (omega arith) (upper_once xs c.lower c.upper p once)
      (upper_share n ranks lo many (length c.lower) (length c.upper) (length xs) some (upper_length xs c.lower c.upper p) c.is.count share)))
      (cases_eq (length xs) 0))
      (cases_eq many 1)

  all : Halves 0 ranks (counting n)
  all =
      let e = (counting_is n).length in
      let a = whole ranks some n in
      let b : 0 * n / ranks ≤ 0 = div-le_of_le-mul ranks (omega arith) in
      let s : 0 + ranks ≡ ranks = omega arith in
      halve ranks 0 ranks (counting n) (omega arith) some (all_once (counting n) n e (kept n)) (rw s (omega (arith, a, b, e)))

  pub bisected_list : List ℕ
  bisected_list = table n all.owner

  pub length_bisected : length bisected_list ≡ n
  unfolding bisected_list
  length_bisected = length_table n all.owner

  pub bisected_below : (x : ℕ) → x < n → get_or bisected_list x 0 < ranks
  unfolding bisected_list
  bisected_below x l = subst (λ z. z < ranks) (sym (table_at n all.owner x 0 l)) (let h = all.below x in omega arith)

  pub is_bisected : IsBisected n ranks values dim bisected_list
  unfolding bisected_list
  is_bisected =
      let e = (counting_is n).length in
      bisected n ranks values dim (table n all.owner) (counting n) some e (kept n)
      (same_halved ranks n ranks values dim all.owner (λ x. get_or (table n all.owner) x 0) 0 ranks (counting n)
      (λ k l. (let q = kept n k (omega arith) in table_at n all.owner (get_or (counting n) k 0) 0 (omega arith)))
      (all.halved ranks (omega arith)))
