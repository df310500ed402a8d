-- That a plan is one, and the number of its steps.
use Rattle.std.specs.Prelude.{◌≡◌, ℕ, ◌<◌, true, List, length, map, slice_index_or}
use Rattle.colouring.specs.declared.types.Colours.{Colours}
use Rattle.local_mesh.specs.declared.types.RankMesh.{RankMesh}
use Rattle.local_mesh.specs.LocalMesh.{originals_in}
use Rattle.local_mesh.specs.Values.{rank_mesh_value}
use Rattle.bound_program.specs.Values.{BoundValue}
use Rattle.loop_plan.specs.Values.{PlanValue, site_plan, item_plan, places_in, block_colour_in, inner_colour_in}
use Rattle.loop_plan.specs.Pairs.{sets_of}
use Rattle.loop_plan.specs.Places.{runs_free}
use Rattle.loop_plan.specs.Proper.{Proper, HasLeastColours}
use Rattle.loop_plan.specs.PlanText.{plan_text}
use Rattle.loop_plan.specs.StepOutline.{step_outline}
use Rattle.loop_plan.specs.StepCounts.{program_steps}

-- Of each loop that runs as a Free one, two plans have the same colours on each of so many ranks.
abbrev pub SameColours : BoundValue → ℕ → PlanValue → PlanValue → Type 0
SameColours b ranks p q =
    (s r : ℕ) (c d : Colours) → s < length b.sites → runs_free b s ≡ true → r < ranks
    → ((slice_index_or (site_plan p s).colours r c).blocks.items ≡ (slice_index_or (site_plan q s).colours r d).blocks.items)
    × ((slice_index_or (site_plan p s).colours r c).inner.items ≡ (slice_index_or (site_plan q s).colours r d).inner.items)

-- two plans of a program with the same colours, on local meshes that are the same as lists, and in blocks of one size
pub record AreAlike (b : BoundValue) (meshes others : List RankMesh) (p q : PlanValue) : Type 0 where
  pub alike : map rank_mesh_value meshes ≡ map rank_mesh_value others
  pub block : p.block ≡ q.block
  pub proper : Proper b meshes p
  pub other_proper : Proper b others q
  pub colours : SameColours b (length meshes) p q

-- two plans with least colours, on local meshes that are the same as lists, and in blocks of one size
pub record AreLeast (b : BoundValue) (meshes others : List RankMesh) (p q : PlanValue) : Type 0 where
  pub alike : map rank_mesh_value meshes ≡ map rank_mesh_value others
  pub block : p.block ≡ q.block
  pub colours : HasLeastColours b meshes p
  pub other_colours : HasLeastColours b others q

-- two plans with least colours, on the same local meshes and in blocks of one size, have the same colours
abbrev pub LeastColoursAreOne : Type 0
LeastColoursAreOne =
    (b : BoundValue) (meshes others : List RankMesh) (p q : PlanValue)
    → AreLeast b meshes others p q
    → SameColours b (length meshes) p q

-- two plans that are alike have one text, and one number of steps
abbrev pub PlanTextsAreOne : Type 0
PlanTextsAreOne =
    (b : BoundValue) (meshes others : List RankMesh) (p q : PlanValue)
    → AreAlike b meshes others p q
    → (plan_text b meshes p ≡ plan_text b others q) × (p.steps ≡ q.steps)

-- What is read of two plans is one: their steps, by item the dats that are exchanged, by loop and rank the places and their colours,
-- and by rank and set the elements in local order.
pub record ReadAlike (b : BoundValue) (meshes others : List RankMesh) (p q : PlanValue) : Type 0 where
  pub outline : step_outline b meshes p ≡ step_outline b others q
  pub exchange : (k : ℕ) → (item_plan p k).exchange ≡ (item_plan q k).exchange
  pub places : (s r : ℕ) → places_in p s r ≡ places_in q s r
  pub block_colours : (s r c : ℕ) → block_colour_in p s r c ≡ block_colour_in q s r c
  pub colours : (s r x : ℕ) → inner_colour_in p s r x ≡ inner_colour_in q s r x
  pub originals : (r s : ℕ) → originals_in (sets_of meshes r) s ≡ originals_in (sets_of others r) s

-- two plans that are alike are read alike
abbrev pub PlansAreOne : Type 0
PlansAreOne =
    (b : BoundValue) (meshes others : List RankMesh) (p q : PlanValue)
    → AreAlike b meshes others p q
    → ReadAlike b meshes others p q

-- on local meshes that are the same as lists a program has one number of steps
abbrev pub StepCountsAreOne : Type 0
StepCountsAreOne =
    (b : BoundValue) (meshes others : List RankMesh)
    → map rank_mesh_value meshes ≡ map rank_mesh_value others
    → program_steps b meshes ≡ program_steps b others
