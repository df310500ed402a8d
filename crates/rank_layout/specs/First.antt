-- The cells of each rank and of the variables before the first step.
use Rattle.std.specs.Prelude.{ℕ, ◌<◌, ◌*◌, ℤ, List, map, length, take, drop, slice_index_or}
use Rattle.std.specs.List.{flat_map}
use Rattle.mesh_decl.specs.Mesh.{MeshValue, dat_count, dat_set, dat_dim, dat_values}
use Rattle.mesh_decl.specs.declared.owners.Owners.{Owners}
use Rattle.mesh_decl.specs.declared.owners.Perms.{Perms}
use Rattle.local_mesh.specs.declared.types.RankMesh.{RankMesh}
use Rattle.local_mesh.specs.LocalMesh.{originals_in, AreClosed}
use Rattle.bound_program.specs.Values.{BoundValue, VarValue}
use Rattle.run_model.specs.Windows.{numbers}
use Rattle.loop_plan.specs.Values.{PlanValue}
use Rattle.rank_state.specs.Starting.{AreFirst}
use Rattle.bound_plan.specs.Laws.{Planned}
use Rattle.bound_plan.specs.Setups.{setup_of}
use Rattle.bound_plan.specs.Layouts.{layout_of}
use Rattle.rank_layout.specs.Tables.{tables_of}

module _ (g : MeshValue) where
  -- dat, element: its values in the mesh
  abbrev pub element_values : ℕ → ℕ → List ℤ
  element_values d x = take (dat_dim g d) (drop (x * dat_dim g d) (dat_values g d))

  -- a dat's values on a rank, by local number
  abbrev pub rank_values : RankMesh → ℕ → List ℤ
  rank_values m d = flat_map (element_values d) (originals_in m.sets.items (dat_set g d))

  -- the cells of a rank, one dat after another
  abbrev pub first_cells : RankMesh → List ℤ
  first_cells m = flat_map (rank_values m) (numbers (dat_count g))

-- the cells of all variables, one variable after another
abbrev pub first_variables : List VarValue → List ℤ
first_variables vars = flat_map (λ (v : VarValue). v.start) vars

-- these are the cells with which the machine starts
abbrev pub FirstCellsStand : Type 0
FirstCellsStand =
    (b : BoundValue) (o : Owners) (n : Perms) (meshes : List RankMesh) (p : PlanValue)
    → Planned b o n meshes p
    → AreFirst (setup_of b o meshes p) (layout_of b o meshes p) (tables_of b p) (map (first_cells b.mesh) meshes) (first_variables b.vars)

-- each rank has different elements, with the targets of what it executes among them
abbrev pub MeshesAreClosed : Type 0
MeshesAreClosed =
    (b : BoundValue) (o : Owners) (n : Perms) (meshes : List RankMesh) (p : PlanValue)
    → Planned b o n meshes p
    → (r : ℕ) (m : RankMesh) → r < length meshes → AreClosed b.mesh (slice_index_or meshes r m).sets.items
