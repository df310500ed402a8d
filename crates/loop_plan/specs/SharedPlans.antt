-- The plans of loops, which loops share where they have the same.
use Rattle.std.specs.Prelude.{◌<◌, ℕ, All, List, [], map, slice_index_or}
use Rattle.colouring.specs.declared.types.Colours.{Colours}
use Rattle.loop_plan.specs.declared.types.SitePlan.{SitePlan}

-- a Free loop by rank: how many places it executes, and their colours
pub record SitePlanValue : Type 0 where
  pub places : List ℕ
  pub colours : List Colours

-- the value of a loop's plan
abbrev pub site_plan_of : SitePlan → SitePlanValue
site_plan_of s = record { places = s.places.items; colours = s.colours.items }

-- the plan of a loop that has none
abbrev pub no_site_plan : SitePlanValue
no_site_plan = record { places = []; colours = [] }

-- plans, and by loop which of them it has
pub record SharedValue : Type 0 where
  pub plans : List SitePlanValue
  pub slots : List (ℕ × ℕ)

-- the plan of a slot
abbrev pub plan_at : List SitePlanValue → ℕ → SitePlanValue
plan_at plans k = slice_index_or plans k no_site_plan

-- by loop, its plan
abbrev pub entry_at : List SitePlanValue → ℕ × ℕ → ℕ × SitePlanValue
entry_at plans e = (e.0, plan_at plans e.1)

-- the loops that have plans, each with its own
abbrev pub entries_of : SharedValue → List (ℕ × SitePlanValue)
entries_of v = map (entry_at v.plans) v.slots

-- the slot of each loop has a plan
abbrev pub AreSlots : ℕ → List (ℕ × ℕ) → Type 0
AreSlots count slots = All (λ e. e.1 < count) slots
