-- The local mesh of a rank.
use Rattle.std.proofs.Common.{◌≡◌, ◌<◌, ℕ, List, [], ◌∷◌, length, get_or, sym, ap, ◌∙◌, subst, arith}
use Rattle.std.proofs.lemmas.List.{get_or-map, get_or_default}
use Rattle.mesh_decl.specs.declared.owners.Owners.{Owners}
use Rattle.mesh_decl.specs.declared.owners.Perms.{Perms}
use Rattle.mesh_decl.proofs.Public.{in_range}
use Rattle.local_mesh.specs.declared.types.RankMesh.{RankMesh}
use Rattle.local_mesh.specs.LocalMesh.{AreClosed, IsRankMesh}
use Rattle.local_mesh.specs.Numbers.{RankMeshesAreClosed}
use Rattle.local_mesh.specs.Lists.{sets_of}
use Rattle.bound_program.specs.Values.{BoundValue}
use Rattle.loop_plan.specs.Values.{PlanValue}
use Rattle.bound_plan.specs.Laws.{Planned}
use Rattle.bound_plan.specs.Places.{cells_of}

pub sets_at : (meshes : List RankMesh) (r : ℕ) (m : RankMesh) → r < length meshes → m ≡ get_or meshes r m → m.sets.items ≡ sets_of meshes r
unfolding sets_of
sets_at meshes r m lt is = ap (λ (x : RankMesh). x.sets.items) is ∙ sym (get_or-map (λ (x : RankMesh). x.sets.items) meshes r m [] lt)

pub cells_at : (meshes : List RankMesh) (r : ℕ) (m : RankMesh) → r < length meshes → m ≡ get_or meshes r m → m.cells ≡ cells_of meshes r
unfolding cells_of
cells_at meshes r m lt is = ap (λ (x : RankMesh). x.cells) is ∙ sym (get_or-map (λ (x : RankMesh). x.cells) meshes r m 0 lt)

pub some_at : {A : Type 0} (xs : List A) (i : ℕ) → i < length xs → A
some_at [] i lt = absurd (omega arith)
some_at (y ∷ ys) i lt = y

module _ (b : BoundValue) (o : Owners) (n : Perms) (meshes : List RankMesh) (p : PlanValue) (pl : Planned b o n meshes p) (r : ℕ) (lr : r < o.ranks) where
  pub rank_there : r < length meshes
  rank_there = omega (arith, pl.distributed.are_meshes.count)

  pub rank_mesh : (m : RankMesh) → m ≡ get_or meshes r m → IsRankMesh b.mesh o n r m
  rank_mesh m is = subst (IsRankMesh b.mesh o n r) (sym is) (pl.distributed.are_meshes.ranks r m lr)

  -- its elements are different, and have their targets among them
  pub closed_at : RankMeshesAreClosed → AreClosed b.mesh (sets_of meshes r)
  closed_at closed =
      let m = get_or meshes r (some_at meshes r rank_there) in
      let is : m ≡ get_or meshes r m = get_or_default meshes r (some_at meshes r rank_there) m rank_there in
      subst (AreClosed b.mesh) (sets_at meshes r m rank_there is)
      (closed b.mesh o n r m (in_range b.mesh pl.fits.mesh) pl.distributed.are_perms (rank_mesh m is))
