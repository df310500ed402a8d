-- The steps that come from a place in an order on.
use Rattle.std.specs.Prelude.{◌≡◌, ◌-◌, ℕ, zero, suc, Bool, cond, Option, MatchOption, List, [], ◌∷◌, ◌++◌, map, drop, get_or}
use Rattle.schedule_steps.specs.Outline.{Outline}
use Rattle.schedule_steps.specs.Standard.{item_steps}
use Rattle.schedule_steps.specs.Drawn.{numbers}
use Rattle.schedule_steps.specs.declared.step.Step.{Step}
use Rattle.schedule_steps.specs.declared.step.Step.TheVariants.{Send, Recv, Begin, End, Join}
use Rattle.step_orders.specs.declared.walks.RunPlace.{RunPlace}
use Rattle.step_orders.specs.declared.walks.RankPlace.{RankPlace}
use Rattle.step_orders.specs.declared.walks.ElementPlace.{ElementPlace}
use Rattle.step_orders.specs.declared.walks.ItemPlace.{ItemPlace}
use Rattle.step_orders.specs.ElementRuns.{runs_of}

-- the answer is the first step of the list and the rest is left, or there was none
abbrev pub IsFirst : List Step → Option Step → List Step → Type 0
IsFirst l answer rest = MatchOption answer ((l ≡ []) × (rest ≡ [])) (λ s. l ≡ s ∷ rest)

-- f i, f (i + 1), .. , n of them
abbrev pub upward : (ℕ → List Step) → ℕ → ℕ → List Step
upward f i zero = []
upward f i (suc n) = f i ++ upward f (suc i) n

-- first, and then f (i + 1), .. , all in all n
abbrev pub onward_by : List Step → (ℕ → List Step) → ℕ → ℕ → List Step
onward_by first f i zero = []
onward_by first f i (suc n) = first ++ upward f (suc i) n

-- from i on below n; of f i what is given first is left
abbrev pub onward : List Step → (ℕ → List Step) → ℕ → ℕ → List Step
onward first f i n = onward_by first f i (n - i)

-- the begins of a run's elements
abbrev pub begins : ℕ → ℕ → List ℕ → List Step
begins k r xs = map (Begin k r) xs

-- the ends of a run's elements
abbrev pub ends : ℕ → ℕ → List ℕ → List Step
ends k r xs = map (End k r) xs

-- each run's begins and then its ends
abbrev pub in_runs : ℕ → ℕ → List (List ℕ) → List Step
in_runs k r [] = []
in_runs k r (xs ∷ runs) = (begins k r xs ++ ends k r xs) ++ in_runs k r runs

-- what is left of a run
abbrev pub run_left : ℕ → ℕ → List ℕ → ℕ → Bool → List Step
run_left k r xs at ending = cond ending (drop at (ends k r xs)) (drop at (begins k r xs) ++ ends k r xs)

-- what is left of a rank's runs
abbrev pub runs_left : ℕ → ℕ → List (List ℕ) → RunPlace → List Step
runs_left k r runs p = run_left k r (get_or runs p.run []) p.at p.ending ++ in_runs k r (drop (suc p.run) runs)

module _ (o : Outline) (g k : ℕ) where
  -- the sends of a rank
  abbrev pub send_steps : ℕ → List Step
  send_steps s = map (Send k s) (numbers (o.sends k s) o.ranks)

  -- the receives of a rank
  abbrev pub receive_steps : ℕ → List Step
  receive_steps r = map (Recv k r) (numbers (λ s. o.sends k s r) o.ranks)

  -- the steps of its elements
  abbrev pub run_steps : ℕ → List Step
  run_steps r = in_runs k r (runs_of o g k r)

  -- what is left of the sends
  abbrev pub sends_left : RankPlace → List Step
  sends_left p = onward (drop p.at (send_steps p.rank)) send_steps p.rank o.ranks

  -- what is left of the receives
  abbrev pub receives_left : RankPlace → List Step
  receives_left p = onward (drop p.at (receive_steps p.rank)) receive_steps p.rank o.ranks

  -- what is left of the elements
  abbrev pub elements_left : ElementPlace → List Step
  elements_left p = onward (runs_left k p.rank (runs_of o g k p.rank) p.runs) run_steps p.rank o.ranks

  -- what is left of a Free item
  abbrev pub free_left : ItemPlace → List Step
  free_left p = sends_left p.sends ++ (receives_left p.receives ++ elements_left p.elements)

  -- what is left of an item; a join is left
  abbrev pub item_left : ItemPlace → List Step
  item_left p = cond (o.is_free k) (free_left p) (Join k ∷ [])

-- what is left of the standard order
abbrev pub standard_left : Outline → ℕ → ℕ → ItemPlace → List Step
standard_left o g k p = onward (item_left o g k p) (item_steps o g) k o.items
