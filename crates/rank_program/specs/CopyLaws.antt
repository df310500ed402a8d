-- Where the values of elements stand on their owners.
use Rattle.std.specs.Prelude.{◌<◌, ℕ, List}
use Rattle.mesh_decl.specs.declared.owners.Owners.{Owners}
use Rattle.mesh_decl.specs.declared.owners.Perms.{Perms}
use Rattle.mesh_decl.specs.Mesh.{set_size, dat_count, dat_set}
use Rattle.local_mesh.specs.declared.halo_lists.types.Halos.{Halos}
use Rattle.local_mesh.specs.declared.types.RankMesh.{RankMesh}
use Rattle.local_mesh.specs.declared.lists.LocalLists.{LocalLists}
use Rattle.bound_program.specs.Values.{BoundValue}
use Rattle.loop_plan.specs.Values.{PlanValue}
use Rattle.bound_plan.specs.Setups.{setup_of}
use Rattle.bound_plan.specs.Layouts.{layout_of}
use Rattle.rank_program.specs.Copies.{IsOwnersCopy}
use Rattle.rank_layout.specs.MessageLaws.{HasLists}
use Rattle.rank_layout.specs.OwnedWindows.{owners_span, HasPlace}

-- the values of an element of a dat stand at its owner's copy
abbrev pub CopiesStand : Type 0
CopiesStand =
    (b : BoundValue) (o : Owners) (n : Perms) (meshes : List RankMesh) (p : PlanValue) (h : Halos) (lists : List LocalLists)
    → HasLists b o n meshes p h lists
    → (d x : ℕ) → d < dat_count b.mesh → x < set_size b.mesh (dat_set b.mesh d)
    → HasPlace b.mesh o meshes lists d x
    × IsOwnersCopy b (setup_of b o meshes p) (layout_of b o meshes p) d x (owners_span b.mesh o meshes lists d x)
