-- What is read of two plans that are alike is one.
use Rattle.std.proofs.Common.{List, [], get_or, ap}
use Rattle.local_mesh.specs.declared.types.RankMesh.{RankMesh}
use Rattle.bound_program.specs.Values.{BoundValue}
use Rattle.loop_plan.specs.Values.{PlanValue}
use Rattle.loop_plan.specs.Pairs.{sets_of}
use Rattle.loop_plan.specs.OnePlan.{AreAlike, ReadAlike}
use Rattle.loop_plan.proofs.AlikeMeshes.{sets_same, originals_same}
use Rattle.loop_plan.proofs.AlikeLists.{Lists}
use Rattle.loop_plan.proofs.OnePlan.{exchange_same, lists_same, outlines_same}

pub one_plan : (b : BoundValue) (meshes others : List RankMesh) (p q : PlanValue) → AreAlike b meshes others p q → ReadAlike b meshes others p q
one_plan b meshes others p q h = record {
  outline = outlines_same b meshes others p q h;
  exchange = exchange_same b meshes others p q h;
  places = λ s r. ap (λ (v : Lists). get_or v.places r 0) (lists_same b meshes others p q h s);
  block_colours = λ s r c. ap (λ (v : Lists). get_or (get_or v.blocks r []) c 0) (lists_same b meshes others p q h s);
  colours = λ s r x. ap (λ (v : Lists). get_or (get_or v.inner r []) x 0) (lists_same b meshes others p q h s);
  originals = λ r s. originals_same (sets_of meshes r) (sets_of others r) (sets_same meshes others h.alike r) s;
}
