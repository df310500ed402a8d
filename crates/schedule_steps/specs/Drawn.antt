-- The drawn order with a seed and groups of g: each rank has a list of its own steps, and each turn draws the rank that goes.
use Rattle.std.specs.Prelude.{◌≡◌, ◌+◌, ◌*◌, ◌/◌, ◌%◌, ◌^◌, ℕ, zero, suc, Bool, false, cond, ◌&&◌, ◌==◌, not, nat_lt, List, [], ◌∷◌, ◌++◌, length, get_or}
use Rattle.schedule_steps.specs.Outline.{Outline}
use Rattle.schedule_steps.specs.declared.step.Step.{Step}
use Rattle.schedule_steps.specs.declared.step.Step.TheVariants.{Send, Recv, Join}
use Rattle.schedule_steps.specs.Steps.{item}
use Rattle.schedule_steps.specs.Turns.{marked, nothing_taken}
use Rattle.schedule_steps.specs.Standard.{below, sends_of, receives_of, element_steps}

-- a rank's own steps: by item its sends, its receives, and its elements in the standard order
abbrev pub own_item : Outline → ℕ → ℕ → ℕ → List Step
own_item o g r k = cond (o.is_free k) (sends_of o k r ++ (receives_of o k r ++ element_steps o g k r)) []

-- a rank's own steps
abbrev pub own : Outline → ℕ → ℕ → List Step
own o g r = below (own_item o g r) o.items

-- the least number below n that meets the test, or n
abbrev pub first_below : (ℕ → Bool) → ℕ → ℕ
first_below t zero = zero
first_below t (suc n) = cond (nat_lt (first_below t n) n) (first_below t n) (cond (t n) n (suc n))

-- the numbers below n that meet the test, increasing
abbrev pub numbers : (ℕ → Bool) → ℕ → List ℕ
numbers t zero = []
numbers t (suc n) = numbers t n ++ cond (t n) (n ∷ []) []

-- the least item whose join is not taken, or the number of items
abbrev pub next_join : Outline → (Step → Bool) → ℕ
next_join o m = first_below (λ j. not (o.is_free j) && not (m (Join j))) o.items

-- a rank's next step is of an item before k
abbrev pub is_early : ℕ → List Step → Bool
is_early k [] = false
is_early k (s ∷ l) = nat_lt (item s) k

-- a rank's next step is a receive whose message was not sent
abbrev pub waits : (Step → Bool) → List Step → Bool
waits m (Recv k r s ∷ l) = not (m (Send k s r))
waits m _ = false

-- a draw: the next number of a linear congruence modulo 2 ^ 64
abbrev pub drawn_number : ℕ → ℕ
drawn_number x = (x * 6364136223846793005 + 1442695040888963407) % 2 ^ 64

-- by the number x, one of the ranks to pick from
abbrev pub picked : ℕ → List ℕ → ℕ
picked x ranks = get_or ranks ((x / 2 ^ 33) % length ranks) 0

-- what a turn does: nothing is left, an item's join is taken, or a rank's next step
pub data Turn : Type 0 where
  Over : Turn
  JoinOf : ℕ → Turn
  StepOf : ℕ → Turn

-- where no rank's next step is of an item before the next join, that join is taken; else a draw picks among those that needn't wait
abbrev pub turn_by : Outline → (ℕ → List Step) → (Step → Bool) → ℕ → ℕ → List ℕ → Turn
turn_by o rest m x k [] = cond (nat_lt k o.items) (JoinOf k) Over
turn_by o rest m x k (c ∷ cs) = StepOf (picked (drawn_number x) (numbers (λ r. is_early k (rest r) && not (waits m (rest r))) o.ranks))

-- the turn that comes where the ranks have rest left, m is taken and the last number drawn is x
abbrev pub turn : Outline → (ℕ → List Step) → (Step → Bool) → ℕ → Turn
turn o rest m x = turn_by o rest m x (next_join o m) (numbers (λ r. is_early (next_join o m) (rest r)) o.ranks)

-- rank r has the steps l left
abbrev pub put_left : ℕ → List Step → (ℕ → List Step) → ℕ → List Step
put_left r l rest x = cond (x == r) l (rest x)

-- the turn takes the step s, and what is said of the turns after it holds
abbrev pub TakenBy : (ℕ → List Step) → Step → Turn → Type 0 → (ℕ → List Step → Type 0) → Type 0
TakenBy rest s Over after_join after_step = ⊥
TakenBy rest s (JoinOf k) after_join after_step = (s ≡ Join k) × after_join
TakenBy rest s (StepOf r) after_join after_step = (left : List Step) × (rest r ≡ s ∷ left) × after_step r left

-- from here, where the ranks have their rests left, m is taken and the last number drawn is x, the turns take the list
abbrev pub DrawnFrom : Outline → (ℕ → List Step) → (Step → Bool) → ℕ → List Step → Type 0
DrawnFrom o rest m x [] = turn o rest m x ≡ Over
DrawnFrom o rest m x (s ∷ l) =
    TakenBy
    rest
    s
    (turn o rest m x)
    (DrawnFrom o rest (marked s m) x l)
    (λ r left. DrawnFrom o (put_left r left rest) (marked s m) (drawn_number x) l)

-- the list is the drawn order with this seed
abbrev pub IsDrawn : Outline → ℕ → ℕ → List Step → Type 0
IsDrawn o g seed l = DrawnFrom o (own o g) nothing_taken seed l
