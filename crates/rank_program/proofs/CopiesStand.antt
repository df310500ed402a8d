-- The values of an element of a dat stand at its local number on its owner.
use Rattle.std.proofs.Common.{◌<◌, ℕ, List, refl}
use Rattle.mesh_decl.specs.declared.owners.Owners.{Owners}
use Rattle.mesh_decl.specs.declared.owners.Perms.{Perms}
use Rattle.mesh_decl.specs.Mesh.{MeshValue, IsMesh, IsDatAt, set_size, dat_count, dat_set}
use Rattle.local_mesh.specs.declared.halo_lists.types.Halos.{Halos}
use Rattle.local_mesh.specs.declared.types.RankMesh.{RankMesh}
use Rattle.local_mesh.specs.declared.lists.LocalLists.{LocalLists}
use Rattle.bound_program.specs.Values.{BoundValue}
use Rattle.loop_plan.specs.Values.{PlanValue}
use Rattle.bound_plan.specs.Machine.{ElementsStand}
use Rattle.bound_plan.specs.Setups.{setup_of}
use Rattle.bound_plan.specs.Layouts.{layout_of}
use Rattle.rank_program.specs.Copies.{IsOwnersCopy}
use Rattle.rank_layout.specs.MessageLaws.{HasLists}
use Rattle.rank_layout.specs.OwnedWindows.{owners_span}
use Rattle.rank_layout.proofs.Public.{rank_of, value_at, has_place}
use Rattle.rank_program.specs.CopyLaws.{CopiesStand}

copy_is : (b : BoundValue) (o : Owners) (n : Perms) (meshes : List RankMesh) (p : PlanValue) (h : Halos) (lists : List LocalLists)
    → HasLists b o n meshes p h lists → ((d : ℕ) → d < dat_count b.mesh → IsDatAt b.mesh d) → ElementsStand
    → (d x : ℕ) → d < dat_count b.mesh → x < set_size b.mesh (dat_set b.mesh d)
    → IsOwnersCopy b (setup_of b o meshes p) (layout_of b o meshes p) d x (owners_span b.mesh o meshes lists d x)
copy_is b o n meshes p h lists has_lists declared standing d x ld lx = record {
  rank = rank_of b o n meshes p h lists has_lists declared standing d x ld lx;
  inside = (has_place b o n meshes p h lists has_lists declared standing d x ld lx).inside;
  dim = refl;
  cells = value_at b o n meshes p h lists has_lists declared standing d x ld lx;
  owner = refl;
}

pub copies_stand : ((g : MeshValue) → IsMesh g → (d : ℕ) → d < dat_count g → IsDatAt g d) → ElementsStand → CopiesStand
copies_stand dats standing b o n meshes p h lists has_lists d x ld lx =
    let declared = dats b.mesh has_lists.planned.fits.mesh in
    (has_place b o n meshes p h lists has_lists declared standing d x ld lx, copy_is b o n meshes p h lists has_lists declared standing d x ld lx)
