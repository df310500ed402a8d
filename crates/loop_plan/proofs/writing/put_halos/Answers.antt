use Rattle.std.proofs.Common.{◌<◌, ◌∙◌, ℕ, sym, length, arith}
use Rattle.local_mesh.specs.declared.types.RankMesh.{RankMesh}
use Rattle.loop_plan.proofs.SetReads.{sets_at}
use Rattle.loop_plan.proofs.PlanLines.{halos_more}
use Rattle.loop_plan.proofs.writing.put_halos.Goals as goal
use Rattle.lemmas.proofs.Lists.{element_at}

pub loop-rank-preserved : goal.loop-rank-preserved
loop-rank-preserved c =
    let meshes = c.args.ranks.now in
    let k : ℕ = c.loop-rank.rank in
    let l : k < length meshes = omega (arith, c.loop-rank-test.true, c.loop-rank.auto.rank-end) in
    let m : RankMesh = (element_at meshes k l).0 in
    halos_more c.args.mesh.now c.args.set k meshes m c.sets_on.result.now c.args.out.now.items c.loop-rank.out.items c.put_rank_halo.new.out.items l
    (sets_at meshes k m l ∙ sym c.sets_on.ensures) c.loop-rank.invariant c.in_ok-put_rank_halo.ensures
