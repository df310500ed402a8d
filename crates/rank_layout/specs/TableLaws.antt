-- What the tables of a machine say of its setup and its layout.
use Rattle.std.specs.Prelude.{ℕ, List}
use Rattle.mesh_decl.specs.declared.owners.Owners.{Owners}
use Rattle.mesh_decl.specs.declared.owners.Perms.{Perms}
use Rattle.local_mesh.specs.declared.types.RankMesh.{RankMesh}
use Rattle.local_mesh.specs.declared.lists.LocalLists.{LocalLists}
use Rattle.bound_program.specs.Values.{BoundValue}
use Rattle.run_model.specs.Programs.{item_at, loop_of}
use Rattle.loop_plan.specs.Values.{PlanValue}
use Rattle.rank_state.specs.declared.scalars.Scalar.{Scalar}
use Rattle.rank_state.specs.Shows.{Indexed}
use Rattle.rank_state.specs.Starting.{AreSlots, ArePlaces}
use Rattle.rank_state.specs.Joins.{AreReduced}
use Rattle.bound_plan.specs.Laws.{Planned}
use Rattle.bound_plan.specs.Setups.{setup_of}
use Rattle.bound_plan.specs.Layouts.{layout_of}
use Rattle.rank_layout.specs.Tables.{tables_of}
use Rattle.rank_layout.specs.Made.{AreSiteScalars, AreMade}
use Rattle.rank_layout.specs.declared.tables.MachineTables.{MachineTables}

-- each index of a buffer and of the variables is its cell's, constants are variables' cells, and places are enough
abbrev pub TablesAreIndexed : Type 0
TablesAreIndexed =
    (b : BoundValue) (o : Owners) (n : Perms) (meshes : List RankMesh) (p : PlanValue)
    → Planned b o n meshes p
    → Indexed (setup_of b o meshes p) (layout_of b o meshes p) (tables_of b p)

-- the slots that were made merge as the loops do
abbrev pub SlotsStand : Type 0
SlotsStand =
    (b : BoundValue) (o : Owners) (n : Perms) (meshes : List RankMesh) (p : PlanValue) (lists : List LocalLists) (t : MachineTables)
    → Planned b o n meshes p
    → AreMade b o p lists t
    → AreSlots (setup_of b o meshes p) (layout_of b o meshes p) (tables_of b p) t.slots.items

-- the places that were made are those of the ranks
abbrev pub PlacesStand : Type 0
PlacesStand =
    (b : BoundValue) (o : Owners) (meshes : List RankMesh) (p : PlanValue) (lists : List LocalLists) (t : MachineTables)
    → AreMade b o p lists t
    → ArePlaces (setup_of b o meshes p) (layout_of b o meshes p) (tables_of b p) t.places.items

-- the scalars of a loop are those of each item that runs it; so they have a slot for each cell into which it reduces
abbrev pub ScalarsStand : Type 0
ScalarsStand =
    (b : BoundValue) (o : Owners) (meshes : List RankMesh) (p : PlanValue) (k : ℕ) (scalars : List Scalar)
    → AreSiteScalars b (loop_of (item_at b k)) scalars
    → AreReduced (setup_of b o meshes p) (layout_of b o meshes p) (tables_of b p) k scalars
