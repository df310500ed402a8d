-- The marks of all items are the marks of the plan.
use Rattle.std.proofs.Common.{◌≡◌, ℕ, ◌^◌, ◌<◌, ◌≤◌, refl, arith, List, length, get_or}
use Rattle.local_mesh.specs.declared.types.RankMesh.{RankMesh}
use Rattle.mesh_decl.specs.Mesh.{MeshValue}
use Rattle.local_mesh.specs.declared.halo_lists.types.Halos.{Halos}
use Rattle.bound_program.specs.Values.{BoundValue}
use Rattle.step_judge.specs.Item.{Item}
use Rattle.step_judge.specs.Marked.{no_item}
use Rattle.step_judge.specs.Fresh.{AreFresh}
use Rattle.loop_plan.specs.Values.{PlanValue}
use Rattle.loop_plan.specs.Distributed.{Distributed}
use Rattle.loop_plan.specs.StepOutline.{step_outline}
use Rattle.schedule_check.specs.ItemMarks.{AreItemMarks}
use Rattle.lemmas.proofs.Numbers.{div_mono}

-- there is a rank
pub some_rank : (g : MeshValue) (h : Halos) (meshes : List RankMesh) → Distributed g h meshes → 0 < length meshes
some_rank g h meshes d = (let a : 0 < d.owners.ranks = d.distributed.are_owners.some_rank in let e : length meshes ≡ d.owners.ranks = d.distributed.are_meshes.count in omega arith)

pub few_ranks : (g : MeshValue) (h : Halos) (meshes : List RankMesh) → Distributed g h meshes → length meshes ≤ 64
few_ranks g h meshes d = (let a : d.owners.ranks ≤ 64 = d.distributed.are_owners.few_ranks in let e : length meshes ≡ d.owners.ranks = d.distributed.are_meshes.count in omega arith)

pub are_fresh : (b : BoundValue) (meshes : List RankMesh) (p : PlanValue) (ws : List Item)
    → p.ranks ≡ length meshes
    → 0 < length meshes
    → length b.trace < 2 ^ 32
    → length ws ≡ length b.trace
    → ((k : ℕ) → k < length b.trace → AreItemMarks b meshes p k (get_or ws k no_item))
    → AreFresh (step_outline b meshes p) p.ranks ws
are_fresh b meshes p ws ranks some few count items = record {
  ranks = refl;
  some = omega arith;
  few = omega arith;
  items = count;
  each = λ k l. (items k (omega arith)).fresh;
  all = λ k r x. refl;
  in_order = λ k r x y l. div_mono x y p.block (omega arith);
}
