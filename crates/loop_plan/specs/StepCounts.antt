-- How many steps a program has on these ranks.
use Rattle.std.specs.Prelude.{◌≡◌, ℕ, ◌+◌, ◌*◌, ◌<◌, cond, List, length, slice_index}
use Rattle.lemmas.specs.Below.{listed}
use Rattle.mesh_decl.specs.Mesh.{dat_count}
use Rattle.local_mesh.specs.declared.types.RankMesh.{RankMesh}
use Rattle.bound_program.specs.Values.{BoundValue}
use Rattle.bound_program.specs.Fits.{site_at}
use Rattle.loop_plan.specs.Counted.{sum_below}
use Rattle.loop_plan.specs.declared.types.ItemPlan.{ItemPlan}
use Rattle.loop_plan.specs.declared.types.PlanRefusal.{PlanRefusal}
use Rattle.loop_plan.specs.declared.types.PlanRefusal.TheVariants as refusal
use Rattle.loop_plan.specs.declared.exchange.LoopRun.{LoopRun}
use Rattle.loop_plan.specs.declared.exchange.LoopRun.TheVariants as run
use Rattle.loop_plan.specs.ItemPlans.{plan_in}
use Rattle.loop_plan.specs.Needs.{item_at, run_of, exchanged_at}
use Rattle.loop_plan.specs.Pairs.{passes, pairs_below}
use Rattle.loop_plan.specs.Places.{places_of}
use Rattle.loop_plan.specs.StepOutline.{is_free, loop_of}

module _ (b : BoundValue) (meshes : List RankMesh) where
  -- the dats that an item exchanges
  abbrev pub exchange_of : ℕ → List ℕ
  exchange_of k = listed (dat_count b.mesh) (exchanged_at b k)

  -- how many messages an item has
  abbrev pub message_count : ℕ → ℕ
  message_count k = length (pairs_below (passes b.mesh meshes (exchange_of k)) (length meshes) (length meshes))

  -- how many places all ranks execute of a loop
  abbrev pub place_count : ℕ → ℕ
  place_count s = sum_below (places_of meshes (site_at b s)) (length meshes)

  -- two steps for each message and each place of an item, or one join
  abbrev pub steps_at : ℕ → ℕ
  steps_at k = cond (is_free (item_at b k)) (2 * message_count k + 2 * place_count (loop_of (item_at b k))) 1

  -- all steps
  abbrev pub program_steps : ℕ
  program_steps = sum_below steps_at (length b.trace)

-- the limit
abbrev pub max_steps : ℕ
max_steps = 8388608

-- the steps of an item that runs this loop, by its messages and the places of each loop
abbrev pub steps_by : LoopRun → ℕ → List ℕ → ℕ
steps_by (run.Free s) messages totals = 2 * (messages + slice_index totals s)
steps_by (run.Ordered s) messages totals = 1
steps_by run.No messages totals = 1

-- all steps, by the plans of the items and the places of each loop
abbrev pub steps_of_plans : BoundValue → List ItemPlan → List ℕ → ℕ → ℕ
steps_of_plans b plans totals n = sum_below (λ k. steps_by (run_of (item_at b k)) (length (plan_in plans k).pairs) totals) n

-- a refusal names the number of steps, which is beyond the limit, or is want of memory
abbrev pub Refuses : ℕ → PlanRefusal → Type 0
Refuses n (refusal.TooManySteps steps) = (steps ≡ n) × (max_steps < n)
Refuses n refusal.OutOfMemory = Unit {0}
