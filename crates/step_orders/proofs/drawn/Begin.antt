-- A drawn order before its first step.
use Rattle.std.proofs.Common.{◌≡◌, ℕ, zero, suc, ◌<◌, ◌≤◌, Bool, true, false, cond, refl, sym, ap, subst, ◌∙◌, arith, ⊎_elim, List, [], ◌∷◌, ◌++◌, length, get_or, Vec, Option}
use Rattle.std.specs.declared.alloc.Global.{Global}
use Rattle.std.specs.Prelude.{nat_lt, not, ◌&&◌, ◌==◌, ◌/◌, ◌%◌, ◌^◌}
use Rattle.std.proofs.lemmas.Bool.{cases_lt, le-ltb, false≢true}
use Rattle.schedule_steps.specs.Outline.{Outline}
use Rattle.schedule_steps.specs.declared.step.Step.{Step}
use Rattle.schedule_steps.specs.Steps.{has, Accepted}
use Rattle.schedule_steps.specs.Turns.{marked, nothing_taken}
use Rattle.schedule_steps.specs.Drawn.{own, next_join, is_early, waits, numbers, drawn_number, picked, turn, turn_by, put_left, TakenBy, DrawnFrom, IsDrawn, Turn, Over, JoinOf, StepOf}
use Rattle.schedule_steps.specs.Peaks.{step_count}
use Rattle.step_orders.specs.Rests.{rests, sent_below}
use Rattle.step_orders.specs.UnderWay.{IsNextJoin, IsTable, IsUnderWay, IsKept, left_in}
use Rattle.step_orders.proofs.drawn.ToCome.{left_is}
use Rattle.step_orders.proofs.drawn.OwnSteps.{own_planned}
use Rattle.step_orders.proofs.drawn.Masks.{numbers_same}

abbrev Below : ℕ → List ℕ → Type 0
Below n l = (i : ℕ) → i < length l → get_or l i 0 < n

below_append : (n : ℕ) (a b : List ℕ) → Below n a → Below n b → Below n (a ++ b)
below_append n [] b h k i lt = k i lt
below_append n (x ∷ a) b h k zero lt = h 0 (omega arith)
below_append n (x ∷ a) b h k (suc i) lt = below_append n a b (λ j lj. h (suc j) (omega arith)) k i (omega arith)

numbers_below : (t : ℕ → Bool) (n l : ℕ) → n ≤ l → Below l (numbers t n)
numbers_below t zero l le = λ i lt. absurd (omega arith)
numbers_below t (suc n) l le = below_append l (numbers t n) (cond (t n) (n ∷ []) []) (numbers_below t n l (omega arith)) (last (t n))
  where
    last : (b : Bool) → Below l (cond b (n ∷ []) [])
    last true zero lt = omega arith
    last true (suc i) lt = absurd (omega arith)
    last false i lt = absurd (omega arith)

picked_below : (n x : ℕ) (l : List ℕ) → 0 < n → Below n l → picked x l < n
picked_below n x [] pos h = pos
picked_below n x (y ∷ l) pos h = h ((x / 2 ^ 33) % length (y ∷ l)) (omega arith)

some_numbers : (t : ℕ → Bool) (n y : ℕ) (l : List ℕ) → numbers t n ≡ y ∷ l → 0 < n
some_numbers t zero y l e = absurd (let w : [] ≡ y ∷ l = e in cc)
some_numbers t (suc n) y l e = omega arith

module _ (o : Outline) where
  by_rank : (rest : ℕ → List Step) (m : Step → Bool) (x k r : ℕ) (early : List ℕ) → numbers (λ r. is_early k (rest r)) o.ranks ≡ early
      → turn_by o rest m x k early ≡ StepOf r → r < o.ranks
  by_rank rest m x k r [] e h = absurd (none (nat_lt k o.items) h)
    where
      none : (b : Bool) → cond b (JoinOf k) Over ≡ StepOf r → ⊥
      none true h = cc
      none false h = cc
  by_rank rest m x k r (y ∷ early) e h =
      let going : List ℕ = numbers (λ r. is_early k (rest r) && not (waits m (rest r))) o.ranks in
      let lt : picked (drawn_number x) going < o.ranks = picked_below o.ranks (drawn_number x) going (some_numbers (λ r. is_early k (rest r)) o.ranks y early e)
      (numbers_below (λ r. is_early k (rest r) && not (waits m (rest r))) o.ranks o.ranks (omega arith)) in
      let i : picked (drawn_number x) going ≡ r = cc in
      omega arith

  pub rank_below : (rest : ℕ → List Step) (m : Step → Bool) (x r : ℕ) → turn o rest m x ≡ StepOf r → r < o.ranks
  rank_below rest m x r h = by_rank rest m x (next_join o m) r (numbers (λ r. is_early (next_join o m) (rest r)) o.ranks) refl h

  abbrev Alike : (ℕ → List Step) → (ℕ → List Step) → Type 0
  Alike a b = (r : ℕ) → r < o.ranks → a r ≡ b r

  turn_alike : (a b : ℕ → List Step) (m : Step → Bool) (x : ℕ) → Alike a b → turn o a m x ≡ turn o b m x
  turn_alike a b m x h =
      ap (λ z. turn_by o a m x (next_join o m) z)
      (numbers_same (λ r. is_early (next_join o m) (a r)) (λ r. is_early (next_join o m) (b r)) o.ranks
      (λ r lt. ap (λ z. is_early (next_join o m) z) (h r lt)))
      ∙ by (numbers (λ r. is_early (next_join o m) (b r)) o.ranks)
    where
      by : (early : List ℕ) → turn_by o a m x (next_join o m) early ≡ turn_by o b m x (next_join o m) early
      by [] = refl
      by (y ∷ early) = ap (λ z. StepOf (picked (drawn_number x) z)) (numbers_same _ _ o.ranks (λ r lt. ap (λ z. is_early (next_join o m) z && not (waits m z)) (h r lt)))

  put_alike : (a b : ℕ → List Step) (r : ℕ) (left : List Step) → Alike a b → Alike (put_left r left a) (put_left r left b)
  put_alike a b r left h y lt = by (y == r)
    where
      by : (t : Bool) → cond t left (a y) ≡ cond t left (b y)
      by true = refl
      by false = h y lt

  -- only the ranks that there are matter
  drawn_alike : (l : List Step) (a b : ℕ → List Step) (m : Step → Bool) (x : ℕ) → Alike a b → DrawnFrom o a m x l → DrawnFrom o b m x l
  drawn_alike [] a b m x h d = sym (turn_alike a b m x h) ∙ d
  drawn_alike (s ∷ l) a b m x h d =
      subst (λ z. TakenBy b s z (DrawnFrom o b (marked s m) x l) (λ r left. DrawnFrom o (put_left r left b) (marked s m) (drawn_number x) l)) (turn_alike a b m x h)
      (by (turn o a m x) refl d (λ w. drawn_alike l a b (marked s m) x h w)
      (λ r left w. drawn_alike l (put_left r left a) (put_left r left b) (marked s m) (drawn_number x) (put_alike a b r left h) w))
    where
      by : (t : Turn) → turn o a m x ≡ t
          → TakenBy a s t (DrawnFrom o a (marked s m) x l) (λ r left. DrawnFrom o (put_left r left a) (marked s m) (drawn_number x) l)
          → (DrawnFrom o a (marked s m) x l → DrawnFrom o b (marked s m) x l)
          → ((r : ℕ) (left : List Step) → DrawnFrom o (put_left r left a) (marked s m) (drawn_number x) l → DrawnFrom o (put_left r left b) (marked s m) (drawn_number x) l)
          → TakenBy b s t (DrawnFrom o b (marked s m) x l) (λ r left. DrawnFrom o (put_left r left b) (marked s m) (drawn_number x) l)
      by Over e w j st = w
      by (JoinOf k) e w j st = (w.0, j w.1)
      by (StepOf r) e w j st = (w.0, sym (h r (rank_below a m x r e)) ∙ w.1, st r w.0 w.2)

  pub begins : (g seed join : ℕ) (rest : ℕ → List Step) (whole : List Step) → IsDrawn o g seed whole → Accepted o whole → IsNextJoin o 0 join → Alike (own o g) rest
      → IsUnderWay o [] whole rest seed join (λ s r. 0)
  begins g seed join rest whole d accepted j h = record {
    accepted = accepted;
    turns = drawn_alike whole (own o g) rest nothing_taken seed h d;
    planned = λ r lt t i. own_planned o g r lt t (ap (λ z. has z t) (h r lt) ∙ i);
    joins = λ k lt f. sym (le-ltb k join (past k f));
    within = j.within;
    at = j.at;
    sends = λ k s r p. sym (le-ltb k 0 (omega arith));
  }
    where
      past : (k : ℕ) → o.is_free k ≡ false → join ≤ k
      past k f = ⊎_elim (λ (lt : k < join). absurd (false≢true (sym f ∙ j.free k (omega arith) lt))) (λ (le : join ≤ k). le) (cases_lt k join)

-- what is kept before the first step
module _ (o : Outline) (g seed : ℕ) (all : (l : List Step) → Accepted o l → length l ≡ step_count o) (whole : List Step) (d : IsDrawn o g seed whole) (accepted : Accepted o whole)
    (heads : List (Option Step)) (tails : List (List Step)) (rows : List (Vec ℕ Global)) (room join : ℕ)
    (few : o.ranks < 2 ^ 32)
    (head_count : length heads ≡ o.ranks)
    (tail_count : length tails ≡ o.ranks)
    (table : IsTable o.ranks rows)
    (room_count : room ≡ o.ranks)
    (j : IsNextJoin o 0 join)
    (first : (r : ℕ) → r < o.ranks → rests heads tails r ≡ own o g r)
    (unsent : (s r : ℕ) → sent_below rows s r ≡ 0) where
  way : IsUnderWay o [] whole (rests heads tails) seed join (sent_below rows)
  way =
      subst (λ z. IsUnderWay o [] whole (rests heads tails) seed join z) (λ i s r. sym (unsent s r) i)
      (begins o g seed join (rests heads tails) whole d accepted j (λ r lt. sym (first r lt)))

  here : left_in o heads tails rows seed join ≡ whole
  here = left_is o [] whole (rests heads tails) seed join (sent_below rows) all way

  pub kept_first : IsKept o heads tails rows room seed join
  kept_first = record {
    few = few;
    head_count = head_count;
    tail_count = tail_count;
    table = table;
    room_count = room_count;
    list = [];
    coming = whole;
    way = way;
  }

  pub drawn_first : IsDrawn o g seed (left_in o heads tails rows seed join) × Accepted o (left_in o heads tails rows seed join)
  drawn_first = (subst (IsDrawn o g seed) (sym here) d, subst (Accepted o) (sym here) accepted)
