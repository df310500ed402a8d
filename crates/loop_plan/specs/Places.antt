-- Which places the ranks execute of a loop, and which of its arguments ask for colours.
use Rattle.std.specs.Prelude.{◌≡◌, ℕ, ◌^◌, ◌<◌, ◌≤◌, Bool, false, cond, nat_eq, if◌then◌else◌, List, [], ◌∷◌, Vec, map, length, slice_index_or}
use Rattle.std.specs.declared.alloc.Global.{Global}
use Rattle.std.specs.List.{list_any}
use Rattle.mesh_decl.specs.Mesh.{MeshValue, set_count}
use Rattle.local_mesh.specs.declared.types.RankMesh.{RankMesh}
use Rattle.local_mesh.specs.LocalMesh.{originals_in, executed_in}
use Rattle.colouring.specs.declared.types.IncArg.{IncArg}
use Rattle.bound_program.specs.declared.sites.Arg.{Arg}
use Rattle.bound_program.specs.declared.sites.Arg.TheVariants.{Dat, Global as Variable}
use Rattle.bound_program.specs.Values.{ItemValue, Free, SiteValue, BoundValue}
use Rattle.bound_program.specs.Classes.{is_reducing, scatters}
use Rattle.loop_plan.specs.declared.exchange.LoopRun.{LoopRun}
use Rattle.loop_plan.specs.declared.exchange.LoopRun.TheVariants as run
use Rattle.loop_plan.specs.Pairs.{sets_of, own_in}

-- the arguments that merge amounts into dats
abbrev pub reducing : List Arg → List IncArg
reducing [] = []
reducing (Dat d v a ∷ xs) = if is_reducing a then record { dat = d; via = v } ∷ reducing xs else reducing xs
reducing (Variable v a ∷ xs) = reducing xs

-- how many places a rank executes of a loop: what it owns and, where the loop scatters, what it imports to execute
abbrev pub places_of : List RankMesh → SiteValue → ℕ → ℕ
places_of meshes s r = cond (scatters s.args) (executed_in (sets_of meshes r) s.set) (own_in (sets_of meshes r) s.set)

-- the local targets of what a rank executes
unfoldable pub maps_of : List RankMesh → ℕ → List (Vec ℕ Global)
maps_of meshes r = slice_index_or (map (λ (m : RankMesh). m.maps.items) meshes) r []

-- the item runs this loop as a Free one
abbrev pub runs_loop : ℕ → ItemValue → Bool
runs_loop s (Free n) = nat_eq n s
runs_loop s i = false

-- the loop stands in the trace as a Free item
abbrev pub runs_free : BoundValue → ℕ → Bool
runs_free b s = list_any (runs_loop s) b.trace

-- each rank has each set, and executes fewer than 2^32 elements of it
pub record HaveSets (g : MeshValue) (meshes : List RankMesh) : Type 0 where
  pub few : length meshes ≤ 64
  pub sets : (r : ℕ) → r < length meshes → length (sets_of meshes r) ≡ set_count g
  pub executed : (r t : ℕ) → r < length meshes → t < set_count g → executed_in (sets_of meshes r) t < 2 ^ 32
  pub held : (r t : ℕ) → r < length meshes → t < set_count g
      → executed_in (sets_of meshes r) t ≤ length (originals_in (sets_of meshes r) t)

-- the item's loop runs as a Free one and is this one
abbrev pub is_run : LoopRun → ℕ → Bool
is_run (run.Free n) s = nat_eq n s
is_run (run.Ordered n) s = false
is_run run.No s = false
