-- How large a plan is, loop by loop.
use Rattle.std.specs.Prelude.{ℕ, suc, ◌+◌, ◌-◌, ◌*◌, ◌/◌, Bool, false, cond, max, nat_eq, List, [], ◌∷◌, map, length, sum, sum_by}
use Rattle.mesh_decl.specs.Mesh.{MeshValue}
use Rattle.local_mesh.specs.declared.types.RankMesh.{RankMesh}
use Rattle.colouring.specs.declared.types.Colours.{Colours}
use Rattle.bound_program.specs.Values.{ItemValue, Free, Ordered, BoundValue}
use Rattle.bound_program.specs.Fits.{site_at}
use Rattle.loop_plan.specs.declared.types.Pair.{Pair}
use Rattle.loop_plan.specs.Counted.{sum_below}
use Rattle.loop_plan.specs.Values.{ItemPlanValue, PlanValue, site_plan}
use Rattle.loop_plan.specs.Pairs.{sets_of, own_in}
use Rattle.loop_plan.specs.Places.{runs_loop}
use Rattle.schedule_check.specs.Mail.{cells_between}
use Rattle.plan_counts.specs.declared.types.LoopCounts.{LoopCounts}

-- ---- what the items of a loop do

-- the sum of a number of each item and its plan
abbrev pub over : (ItemValue → ItemPlanValue → ℕ) → List ItemValue → List ItemPlanValue → ℕ
over f [] ps = 0
over f (i ∷ is) [] = 0
over f (i ∷ is) (p ∷ ps) = f i p + over f is ps

-- the item runs the loop, as a Free or an Ordered one
abbrev pub runs_it : ℕ → ItemValue → Bool
runs_it s (Free n) = nat_eq n s
runs_it s (Ordered n) = nat_eq n s
runs_it s i = false

-- 1 where some dat is exchanged
abbrev pub one_if_some : List ℕ → ℕ
one_if_some [] = 0
one_if_some (d ∷ ds) = 1

-- the cells of all messages of an item
abbrev pub exchanged_cells : MeshValue → List RankMesh → ItemPlanValue → ℕ
exchanged_cells g meshes p = sum_by (λ (q : Pair). cells_between g meshes p.exchange q.from q.to) p.pairs

-- 1 where the item runs loop s, and else 0
abbrev pub runs_of : ℕ → ItemValue → ItemPlanValue → ℕ
runs_of s i p = cond (runs_it s i) 1 0

-- 1 where it runs the loop and exchanges dats first
abbrev pub exchanges_of : ℕ → ItemValue → ItemPlanValue → ℕ
exchanges_of s i p = cond (runs_loop s i) (one_if_some p.exchange) 0

-- how many messages these take
abbrev pub messages_of : ℕ → ItemValue → ItemPlanValue → ℕ
messages_of s i p = cond (runs_loop s i) (length p.pairs) 0

-- how many cells are in them
abbrev pub cells_of : BoundValue → List RankMesh → ℕ → ItemValue → ItemPlanValue → ℕ
cells_of b meshes s i p = cond (runs_loop s i) (exchanged_cells b.mesh meshes p) 0

-- ---- what one run of a loop does

-- the largest of the numbers, and 0 where there are none
abbrev pub largest : List ℕ → ℕ
largest [] = 0
largest (x ∷ xs) = max x (largest xs)

-- how many colours stand in a list, which are numbered from 0 on
abbrev pub number_of_colours : List ℕ → ℕ
number_of_colours cs = largest (map suc cs)

-- how many elements the ranks own of a set
abbrev pub owned_of : List RankMesh → (set : ℕ) → ℕ
owned_of meshes set = sum_below (λ r. own_in (sets_of meshes r) set) (length meshes)

-- How many times the mean of all ranks the one with most places has, in hundredths, rounded down; 100 where none has any. So 150 is half
-- as much again.
abbrev pub imbalance_of : List ℕ → ℕ
imbalance_of places = cond (nat_eq (sum places) 0) 100 (largest places * length places * 100 / sum places)

-- the blocks of all ranks
abbrev pub blocks_of : List Colours → ℕ
blocks_of cs = sum_by (λ (c : Colours). length c.blocks.items) cs

-- the most colours of blocks that a rank has
abbrev pub block_colours_of : List Colours → ℕ
block_colours_of cs = largest (map (λ (c : Colours). number_of_colours c.blocks.items) cs)

-- the most colours of the places of one block
abbrev pub inner_colours_of : List Colours → ℕ
inner_colours_of cs = largest (map (λ (c : Colours). number_of_colours c.inner.items) cs)

-- ---- the counts of a loop

-- What is counted of loop s. Its items: how often it runs, in how many of these runs dats are exchanged, by how many messages with how many
-- cells. One run of it: how many elements the ranks own of its set, how many they import and execute too, how evenly the ranks share them,
-- in how many blocks, and with how many colours. A loop that runs as no Free one has no places.
abbrev pub counts_of : BoundValue → List RankMesh → PlanValue → ℕ → LoopCounts
counts_of b meshes p s = record {
  runs = over (runs_of s) b.trace p.items;
  exchanges = over (exchanges_of s) b.trace p.items;
  messages = over (messages_of s) b.trace p.items;
  cells = over (cells_of b meshes s) b.trace p.items;
  owned = owned_of meshes (site_at b s).set;
  repeated = sum (site_plan p s).places - owned_of meshes (site_at b s).set;
  imbalance = imbalance_of (site_plan p s).places;
  blocks = blocks_of (site_plan p s).colours;
  block_colours = block_colours_of (site_plan p s).colours;
  inner_colours = inner_colours_of (site_plan p s).colours;
}
