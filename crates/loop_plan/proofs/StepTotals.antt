-- The number of steps, item by item.
use Rattle.std.proofs.Common.{◌≡◌, ◌<◌, ◌+◌, ◌*◌, ℕ, zero, suc, Bool, true, false, cond, sum, refl, sym, ap, ◌∙◌, arith, List, [], ◌∷◌, ◌++◌, length, length-append, map}
use Rattle.std.specs.Prelude.{nat_lt, slice_index}
use Rattle.std.proofs.lemmas.Bool.{lt-ltb, and_from}
use Rattle.std.proofs.lemmas.List.{length-map}
use Rattle.std.proofs.lemmas.List.Sums.{sum_by-cons}
use Rattle.lemmas.specs.Below.{listed}
use Rattle.local_mesh.specs.declared.types.RankMesh.{RankMesh}
use Rattle.schedule_steps.specs.Outline.{Outline, runs}
use Rattle.schedule_steps.specs.Standard.{one_if, tally}
use Rattle.schedule_steps.specs.Peaks.{step_count}
use Rattle.loop_plan.specs.Counted.{sum_below, messages, element_runs, steps_of}
use Rattle.loop_plan.proofs.StepsCounted.{same_sum, standard_length}
use Rattle.bound_program.specs.Values.{BoundValue}
use Rattle.loop_plan.specs.Values.{PlanValue, item_plan, site_plan, places_in}
use Rattle.loop_plan.specs.Needs.{item_at}
use Rattle.loop_plan.specs.Pairs.{passes, pair, pairs_below}
use Rattle.loop_plan.specs.StepOutline.{is_free, loop_at, step_outline, item_step_count, plan_step_count}
use Rattle.loop_plan.specs.Counts.{Counts}

-- ---- pairs
length_one : (b : Bool) (n : ℕ) → length (cond b (n ∷ []) []) ≡ one_if b
length_one true n = refl
length_one false n = refl

length_listed : (p : ℕ → Bool) (n : ℕ) → length (listed n p) ≡ tally p n
length_listed p zero = refl
length_listed p (suc n) =
    let a : length (listed n p ++ cond (p n) (n ∷ []) []) ≡ length (listed n p) + length (cond (p n) (n ∷ []) []) = length-append (listed n p) (cond (p n) (n ∷ []) []) in
    let b : length (listed n p) ≡ tally p n = length_listed p n in
    let c : length (cond (p n) (n ∷ []) []) ≡ one_if (p n) = length_one (p n) n in
    omega arith

length_pairs : (t : ℕ → ℕ → Bool) (n m : ℕ) → length (pairs_below t n m) ≡ sum_below (λ s. tally (t s) n) m
length_pairs t n zero = refl
length_pairs t n (suc m) =
    let a : length (pairs_below t n m ++ map (pair m) (listed n (t m))) ≡ length (pairs_below t n m) + length
    (map (pair m) (listed n (t m))) = length-append (pairs_below t n m) (map (pair m) (listed n (t m))) in
    let b : length (pairs_below t n m) ≡ sum_below (λ s. tally (t s) n) m = length_pairs t n m in
    let c : length (map (pair m) (listed n (t m))) ≡ tally (t m) n = length-map (listed n (t m)) (pair m) ∙ length_listed (t m) n in
    omega arith

-- ---- places
tally_all : (t : ℕ → Bool) (n : ℕ) → ((i : ℕ) → i < n → t i ≡ true) → tally t n ≡ n
tally_all t zero h = refl
tally_all t (suc n) h =
    let a : tally t n ≡ n = tally_all t n (λ i l. h i (omega arith)) in
    let b : one_if (t n) ≡ 1 = ap one_if (h n (omega arith)) in
    omega arith

from_front : (f : ℕ → ℕ) (n : ℕ) → sum_below f (suc n) ≡ f 0 + sum_below (λ i. f (suc i)) n
from_front f zero = omega arith
from_front f (suc n) = let a : sum_below f (suc n) ≡ f 0 + sum_below (λ i. f (suc i)) n = from_front f n in omega arith

pub sum_of_list : (xs : List ℕ) → sum_below (slice_index xs) (length xs) ≡ sum xs
sum_of_list [] = refl
sum_of_list (x ∷ xs) =
    let a : sum_below (slice_index (x ∷ xs)) (suc (length xs)) ≡ x + sum_below (slice_index xs) (length xs) = from_front (slice_index (x ∷ xs)) (length xs) in
    let b : sum_below (slice_index xs) (length xs) ≡ sum xs = sum_of_list xs in
    let c : sum (x ∷ xs) ≡ x + sum xs = sum_by-cons (λ y. y) x xs in
    omega arith

module _ (b : BoundValue) (meshes : List RankMesh) (p : PlanValue) (c : Counts b meshes p) where
  abbrev o : Outline
  o = step_outline b meshes p

  all_run : (k r : ℕ) → tally (runs o k r) (o.count k r) ≡ places_in p (loop_at b meshes p k) r
  all_run k r = tally_all (runs o k r) (o.count k r) (λ i l. and_from (nat_lt i (o.count k r)) true (lt-ltb i (o.count k r) l) refl)

  messages_are : (k : ℕ) → k < length b.trace → is_free (item_at b k) ≡ true → messages o k ≡ length (item_plan p k).pairs
  messages_are k l f = sym (ap length (c.pairs k l f) ∙ length_pairs (passes b.mesh meshes (item_plan p k).exchange) p.ranks p.ranks)

  runs_are : (k : ℕ) → k < length b.trace → is_free (item_at b k) ≡ true → element_runs o k ≡ sum (site_plan p (loop_at b meshes p k)).places
  runs_are k l f =
      same_sum (λ r. tally (runs o k r) (o.count k r)) (slice_index (site_plan p (loop_at b meshes p k)).places) p.ranks (λ r m. all_run k r)
      ∙ (ap (sum_below (slice_index (site_plan p (loop_at b meshes p k)).places)) (sym (c.places k l f)) ∙ sum_of_list (site_plan p (loop_at b meshes p k)).places)

  item_steps_are : (k : ℕ) → k < length b.trace → (f : Bool) → is_free (item_at b k) ≡ f
      → cond f (2 * messages o k + 2 * element_runs o k) 1 ≡ cond f
      (2 * length (item_plan p k).pairs + 2 * sum (site_plan p (loop_at b meshes p k)).places) 1
  item_steps_are k l true e =
      let x : messages o k ≡ length (item_plan p k).pairs = messages_are k l e in
      let y : element_runs o k ≡ sum (site_plan p (loop_at b meshes p k)).places = runs_are k l e in
      omega arith
  item_steps_are k l false e = refl

  pub steps_counted : step_count (step_outline b meshes p) ≡ plan_step_count b meshes p
  steps_counted =
      standard_length o 1
      ∙ same_sum (steps_of o) (item_step_count b meshes p) (length b.trace) (λ k l. item_steps_are k l (is_free (item_at b k)) refl)
