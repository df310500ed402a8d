-- A list cut along its longest axis.
use Rattle.std.proofs.Common.{◌≡◌, ◌<◌, ◌≤◌, ◌-◌, ℕ, ℤ, true, false, List, length, get_or, take, drop, refl, arith, ⊎_elim, inl, inr}
use Rattle.std.proofs.lemmas.List.{take-append-drop, length-take-le}
use Rattle.std.proofs.lemmas.List.Sorted.{length_permutation}
use Rattle.partition.specs.Bisect.{height, IsSpread, IsAxis, IsAlong, IsCut}
use Rattle.partition.proofs.Public.{spread_from, spread_le}
use Rattle.loop_plan.proofs.plan_exists.Firsts.{greatest}
use Rattle.loop_plan.proofs.plan_exists.Picked.{By, IsPicked, picked}
use Rattle.loop_plan.proofs.plan_exists.Sorted.{sorted, sorted_same, sorted_by}

-- the least of f 0, f 1, .. below n
least : (n : ℕ) (f : ℕ → ℕ) → 0 < n → (z : ℕ) × (z < n) × ((y : ℕ) → y < n → f z ≤ f y)
least n f some = ⊎_elim
    (λ (none : (y : ℕ) → y < n → true ≡ false). (let bad : true ≡ false = none 0 some in cc))
    (λ (z : (z : ℕ) × IsPicked f (λ y. 0) (λ y. true) n z). (z.0, z.1.within, λ y l. at_most z.0 y (z.1.least y l refl)))
    (picked f (λ y. 0) (λ y. true) n)
  where
    at_most : (z y : ℕ) → By f (λ y. 0) z y → f z ≤ f y
    at_most z y (inl l) = omega arith
    at_most z y (inr e) = let q = e.0 in omega arith

-- the parts of an order along the longest axis
cut_from : (values : List ℤ) (dim first axis : ℕ) (xs order : List ℕ) → IsAxis values dim xs axis → IsAlong values dim axis xs order → first ≤ length xs
    → IsCut values dim first xs (take first order) (drop first order)
cut_from values dim first axis xs order longest along l =
    let e : length order ≡ length xs = length_permutation xs order along.same in
    record {
      axis = axis;
      longest = longest;
      along = rw (take-append-drop first order) along;
      count = length-take-le first order (omega (arith, l, e));
    }

module _ (values : List ℤ) (dim : ℕ) (xs : List ℕ) (some : 0 < length xs) where
  -- the spread on an axis
  some_spread : (a : ℕ) → (d : ℕ) × IsSpread values dim a xs d
  some_spread a =
      let f : ℕ → ℕ = λ k. height values dim a (get_or xs k 0) in
      let high = greatest (length xs) f some in
      let low = least (length xs) f some in
      let m : f low.0 ≤ f high.0 = high.1.most low.0 low.1 in (
        f high.0 - f low.0,
        spread_from values dim a xs high.0 low.0 (f high.0) (f low.0) high.1.within low.1 high.1.most low.2 refl refl,
      )

  spread : ℕ → ℕ
  spread a = (some_spread a).0

  spread_is : (a : ℕ) → IsSpread values dim a xs (spread a)
  unfolding spread
  spread_is a = (some_spread a).1

  some_axis : 0 < dim → (a : ℕ) × IsAxis values dim xs a
  some_axis axes =
      let e = greatest dim spread axes in (
        e.0,
        record {
          within = e.1.within;
          spread = spread e.0;
          is = spread_is e.0;
          most = λ b d l s. (let x = spread_le values dim b xs d (spread b) s (spread_is b) in let y = e.1.most b l in omega arith);
          first = λ b d l s. (let x = spread_le values dim b xs d (spread b) s (spread_is b) in let y = e.1.first b l in omega arith);
        },
      )

  itself : ℕ → ℕ
  itself x = x

  along : (a : ℕ) → IsAlong values dim a xs (sorted (height values dim a) itself xs)
  unfolding itself
  along a = record {
    same = sorted_same (height values dim a) itself xs;
    rises = λ i j l lj. sorted_by (height values dim a) itself xs i j l lj;
  }

  pub record Cut (many : ℕ) : Type 0 where
    pub lower : List ℕ
    pub upper : List ℕ
    pub is : IsCut values dim many xs lower upper

  pub cut : 0 < dim → (many : ℕ) → many ≤ length xs → Cut many
  cut axes many l =
      let a = some_axis axes in
      let ys = sorted (height values dim a.0) itself xs in
      record {
        lower = take many ys;
        upper = drop many ys;
        is = cut_from values dim many a.0 xs ys a.1 (along a.0) l;
      }
