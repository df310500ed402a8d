-- Plans without where they lie in memory.
use Rattle.std.specs.Prelude.{ℕ, List, [], map, slice_index, slice_index_or, nat_eq, Option, Some, None}
use Rattle.std.specs.Map.{lookup}
use Rattle.colouring.specs.declared.types.Colours.{Colours}
pub use Rattle.loop_plan.specs.SharedPlans.{SitePlanValue, site_plan_of, no_site_plan, entries_of}
use Rattle.loop_plan.specs.declared.types.Pair.{Pair}
use Rattle.loop_plan.specs.declared.types.ItemPlan.{ItemPlan}
use Rattle.loop_plan.specs.declared.types.Plan.{Plan}

-- the dats that an item exchanges, and its messages
pub record ItemPlanValue : Type 0 where
  pub exchange : List ℕ
  pub pairs : List Pair

-- how a program runs on a number of ranks, with blocks of so many places, and how many steps it has
pub record PlanValue : Type 0 where
  pub ranks : ℕ
  pub block : ℕ
  pub sites : List (ℕ × SitePlanValue)
  pub items : List ItemPlanValue
  pub steps : ℕ

-- ---- the values of the program's types

-- the value of an item's plan
abbrev pub item_plan_of : ItemPlan → ItemPlanValue
item_plan_of i = record { exchange = i.exchange.items; pairs = i.pairs.items }

-- the value of a plan
abbrev pub plan_of : Plan → PlanValue
plan_of p = record {
  ranks = p.ranks;
  block = p.block;
  sites = entries_of p.sites;
  items = map item_plan_of p.items.items;
  steps = p.steps;
}

-- ---- parts of a plan by their numbers

-- the plan of an item that isn't there
abbrev pub no_item_plan : ItemPlanValue
no_item_plan = record { exchange = []; pairs = [] }

-- the plan of a loop, where it has one
abbrev pub or_none : Option SitePlanValue → SitePlanValue
or_none None = no_site_plan
or_none (Some s) = s

module _ (p : PlanValue) where
  -- the plan of a loop
  unfoldable pub site_plan : ℕ → SitePlanValue
  site_plan s = or_none (lookup (nat_eq s) p.sites)

  -- the plan of an item
  unfoldable pub item_plan : ℕ → ItemPlanValue
  item_plan k = slice_index_or p.items k no_item_plan

  -- loop, rank: how many places the rank executes
  abbrev pub places_in : ℕ → ℕ → ℕ
  places_in s r = slice_index (site_plan s).places r

  -- loop, rank, block: the colour of the block
  abbrev pub block_colour_in : ℕ → ℕ → ℕ → ℕ
  block_colour_in s r b = slice_index (slice_index_or (map (λ (c : Colours). c.blocks.items) (site_plan s).colours) r []) b

  -- loop, rank, place: the colour of the place within its block
  abbrev pub inner_colour_in : ℕ → ℕ → ℕ → ℕ
  inner_colour_in s r x = slice_index (slice_index_or (map (λ (c : Colours). c.inner.items) (site_plan s).colours) r []) x
