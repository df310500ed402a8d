-- The steps of a plan, with elements named by their places.
use Rattle.std.specs.Prelude.{ℕ, ◌+◌, ◌*◌, ◌/◌, Bool, true, false, cond, List, length, sum, slice_index_or}
use Rattle.local_mesh.specs.declared.types.RankMesh.{RankMesh}
use Rattle.schedule_steps.specs.Outline.{Outline}
use Rattle.loop_plan.specs.Counted.{sum_below}
use Rattle.bound_program.specs.Values.{ItemValue, Free, Reduce, Ordered, Host, BoundValue}
use Rattle.bound_program.specs.Fits.{site_at}
use Rattle.loop_plan.specs.Values.{PlanValue, item_plan, site_plan, places_in, block_colour_in, inner_colour_in}
use Rattle.loop_plan.specs.Needs.{item_at}
use Rattle.loop_plan.specs.Pairs.{sets_of, core_in, passes}

-- the item runs a Free loop
abbrev pub is_free : ItemValue → Bool
is_free (Free s) = true
is_free i = false

-- the number of its loop
abbrev pub loop_of : ItemValue → ℕ
loop_of (Free s) = s
loop_of (Reduce s) = s
loop_of (Ordered s) = s
loop_of (Host a) = 0

module _ (b : BoundValue) (meshes : List RankMesh) (p : PlanValue) where
  -- the loop of an item
  abbrev pub loop_at : ℕ → ℕ
  loop_at k = loop_of (item_at b k)

  -- What the steps depend on: a message goes where the receiver imports from the sender an element of a dat that the item
  -- exchanges, and a rank begins and ends each of its places.
  abbrev pub step_outline : Outline
  step_outline = record {
    items = length b.trace;
    ranks = p.ranks;
    is_free = λ k. is_free (item_at b k);
    sends = λ k s r. passes b.mesh meshes (item_plan p k).exchange s r;
    count = λ k r. places_in p (loop_at k) r;
    executes = λ k r x. true;
    is_core = λ k r x. slice_index_or (core_in (sets_of meshes r) (site_at b (loop_at k)).set) x false;
    block = λ k r x. x / p.block;
    block_colour = λ k r c. block_colour_in p (loop_at k) r c;
    colour = λ k r x. inner_colour_in p (loop_at k) r x;
  }

  -- two steps for each message and each place, or one join
  abbrev pub item_step_count : ℕ → ℕ
  item_step_count k = cond (is_free (item_at b k)) (2 * length (item_plan p k).pairs + 2 * sum (site_plan p (loop_at k)).places) 1

  -- all steps
  abbrev pub plan_step_count : ℕ
  plan_step_count = sum_below item_step_count (length b.trace)
