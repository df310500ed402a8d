-- The spans of messages are where their cells stand.
use Rattle.std.specs.Prelude.{◌≡◌, ◌<◌, ℕ, List, length, slice_index_or}
use Rattle.mesh_decl.specs.declared.owners.Owners.{Owners}
use Rattle.mesh_decl.specs.declared.owners.Perms.{Perms}
use Rattle.local_mesh.specs.declared.halo_lists.types.Halos.{Halos}
use Rattle.local_mesh.specs.Halos.{AreHalos}
use Rattle.local_mesh.specs.declared.types.RankMesh.{RankMesh}
use Rattle.local_mesh.specs.declared.lists.LocalLists.{LocalLists}
use Rattle.local_mesh.specs.Lists.{AreLocalLists}
use Rattle.bound_program.specs.Values.{BoundValue}
use Rattle.loop_plan.specs.Values.{PlanValue, item_plan}
use Rattle.bound_plan.specs.Laws.{Planned}
use Rattle.bound_plan.specs.Setups.{setup_of}
use Rattle.bound_plan.specs.Layouts.{layout_of}
use Rattle.rank_state.specs.Shows.{AreExports, AreImports}
use Rattle.rank_layout.specs.Exports.{exported_locals}
use Rattle.rank_layout.specs.Messages.{imported_locals, spans_of}
use Rattle.rank_layout.specs.Tables.{tables_of}

-- a program with its plan, halos and lists of local numbers
pub record HasLists (b : BoundValue) (o : Owners) (n : Perms) (meshes : List RankMesh) (p : PlanValue) (h : Halos) (table : List LocalLists)
    : Type 0 where
  pub planned : Planned b o n meshes p
  pub halos : AreHalos b.mesh o h
  pub lists : AreLocalLists b.mesh o h meshes table

-- on the sender, whose local mesh is m
abbrev pub ExportsStand : Type 0
ExportsStand =
    (b : BoundValue) (o : Owners) (n : Perms) (meshes : List RankMesh) (p : PlanValue) (h : Halos) (lists : List LocalLists)
    → HasLists b o n meshes p h lists
    → (k s r : ℕ) (m : RankMesh) → k < length b.trace → s < o.ranks → r < o.ranks → m ≡ slice_index_or meshes s m
    → AreExports (setup_of b o meshes p) (layout_of b o meshes p) (tables_of b p) k s r s
    (spans_of b.mesh m (λ t. exported_locals lists t s r) (item_plan p k).exchange)

-- on the receiver, whose local mesh is m
abbrev pub ImportsStand : Type 0
ImportsStand =
    (b : BoundValue) (o : Owners) (n : Perms) (meshes : List RankMesh) (p : PlanValue) (h : Halos) (lists : List LocalLists)
    → HasLists b o n meshes p h lists
    → (k s r : ℕ) (m : RankMesh) → k < length b.trace → s < o.ranks → r < o.ranks → m ≡ slice_index_or meshes r m
    → AreImports (setup_of b o meshes p) (layout_of b o meshes p) (tables_of b p) k s r
    (spans_of b.mesh m (λ t. imported_locals lists t r s) (item_plan p k).exchange)
