-- The spans in the buffers of owners are where the cells of elements stand.
use Rattle.std.specs.Prelude.{◌≡◌, ◌<◌, ◌≤◌, ℕ, All, List, [], map, length}
use Rattle.mesh_decl.specs.declared.owners.Owners.{Owners}
use Rattle.mesh_decl.specs.declared.owners.Perms.{Perms}
use Rattle.local_mesh.specs.declared.halo_lists.types.Halos.{Halos}
use Rattle.local_mesh.specs.declared.types.RankMesh.{RankMesh}
use Rattle.local_mesh.specs.declared.lists.LocalLists.{LocalLists}
use Rattle.schedule_model.specs.Program.{Reduce, Ordered, elements}
use Rattle.bound_program.specs.Values.{BoundValue}
use Rattle.bound_program.specs.Fits.{site_at}
use Rattle.run_model.specs.Hosts.{variable_cells}
use Rattle.run_model.specs.Laws.{site_of}
use Rattle.run_model.specs.Programs.{item_at, kind_of, loop_of, program_of}
use Rattle.loop_plan.specs.Values.{PlanValue}
use Rattle.bound_plan.specs.Laws.{Planned}
use Rattle.bound_plan.specs.Setups.{setup_of}
use Rattle.bound_plan.specs.Layouts.{layout_of}
use Rattle.bound_plan.specs.Windows.{frame_cells}
use Rattle.bound_plan.specs.Variables.{variable_at}
use Rattle.rank_state.specs.declared.scalars.Scalar.{Scalar}
use Rattle.rank_state.specs.Windows.{index}
use Rattle.rank_state.specs.Ordered.{AreOwned}
use Rattle.rank_state.specs.Shows.{variables_from}
use Rattle.rank_layout.specs.Tables.{tables_of}
use Rattle.rank_layout.specs.Made.{AreSiteScalars}
use Rattle.rank_layout.specs.MessageLaws.{HasLists}
use Rattle.rank_layout.specs.OwnedWindows.{owned_after, owned_by, ArgPlaced}

-- a frame has no more cells than the machine has room for
abbrev pub FramesFit : Type 0
FramesFit =
    (b : BoundValue) (p : PlanValue) (s e : ℕ)
    → s < length b.sites
    → length (frame_cells b (site_at b s).args e) ≤ (tables_of b p).stride

-- the windows of element e of an Ordered item: the tables have their places, and these are where they stand
pub record HasOwned (b : BoundValue) (o : Owners) (meshes : List RankMesh) (p : PlanValue) (lists : List LocalLists) (k e : ℕ)
    : Type 0 where
  pub loop : loop_of (item_at b k) < length b.sites
  pub placed : All (ArgPlaced b o meshes lists e) (site_of b k).args
  pub are : (scalars : List Scalar) → AreSiteScalars b (loop_of (item_at b k)) scalars
      → AreOwned (setup_of b o meshes p) (layout_of b o meshes p) (tables_of b p) k e
      (owned_after (owned_by b o meshes lists e) (site_of b k).args []) (map index scalars)

-- whatever the plan, the owned elements of a loop that reduces stand where the tables say
abbrev pub OwnedStand : Type 0
OwnedStand =
    (b : BoundValue) (o : Owners) (n : Perms) (meshes : List RankMesh) (p : PlanValue) (h : Halos) (lists : List LocalLists)
    → HasLists b o n meshes p h lists
    → (k e : ℕ) → kind_of (item_at b k) ≡ Ordered → e < elements (program_of b) k
    → HasOwned b o meshes p lists k e

-- the variables' cells, one after another, are those of the program
abbrev pub VariablesStand : Type 0
VariablesStand = (b : BoundValue) → variables_from (variable_at b) 0 (length (variable_cells b)) ≡ variable_cells b

-- the item of a Reduce is there, and so is its loop
abbrev pub ReducesAreThere : Type 0
ReducesAreThere =
    (b : BoundValue) (o : Owners) (n : Perms) (meshes : List RankMesh) (p : PlanValue)
    → Planned b o n meshes p
    → (k : ℕ) → kind_of (item_at b k) ≡ Reduce
    → (k < length b.trace) × (loop_of (item_at b k) < length b.sites)
