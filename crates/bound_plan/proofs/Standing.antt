-- Where elements and their values stand on a rank.
use Rattle.std.proofs.Common.{◌<◌, ◌≤◌, ◌+◌, ◌-◌, ◌*◌, ℕ, List, length, get_or, arith}
use Rattle.mesh_decl.specs.declared.owners.Owners.{Owners}
use Rattle.mesh_decl.specs.declared.owners.Perms.{Perms}
use Rattle.mesh_decl.specs.Mesh.{dat_count, dat_set, dat_dim}
use Rattle.local_mesh.specs.declared.types.RankMesh.{RankMesh}
use Rattle.bound_program.specs.Values.{BoundValue}
use Rattle.loop_plan.specs.Values.{PlanValue}
use Rattle.bound_plan.specs.Places.{originals, bases_of, cells_of}
use Rattle.bound_plan.specs.Laws.{Planned}
use Rattle.bound_plan.specs.Machine.{Stand}
use Rattle.bound_plan.specs.Given.{NumberLaws, HaloLaws}
use Rattle.bound_plan.proofs.Locals.{stands, local_is}
use Rattle.bound_plan.proofs.Buffers.{cell_is}

module _ (laws : NumberLaws) (halos : HaloLaws) (b : BoundValue) (o : Owners) (n : Perms) (meshes : List RankMesh) (p : PlanValue) (pl : Planned b o n meshes p) (r : ℕ) (lr : r < o.ranks) where
  inside : (d k : ℕ) → d < dat_count b.mesh → k < length (originals meshes r (dat_set b.mesh d))
      → get_or (bases_of meshes r) d 0 + k * dat_dim b.mesh d + dat_dim b.mesh d ≤ cells_of meshes r
  inside d k ld lk =
      let some = (halos.dats b.mesh pl.fits.mesh d ld).some in
      let w = (cell_is laws halos b o n meshes p pl r lr d k (dat_dim b.mesh d - 1) ld lk (omega arith)).0 in
      omega arith

  pub stand : Stand b o meshes r
  stand = record {
    local = λ s e ls le h. stands laws b.mesh o n meshes pl.distributed r lr s ls e le h;
    one = λ s k ls lk. local_is laws b.mesh o n meshes pl.distributed r lr s ls k lk;
    inside = inside;
    values = λ d k i ld lk li. (cell_is laws halos b o n meshes p pl r lr d k i ld lk li).1;
  }
