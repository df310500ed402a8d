use Rattle.std.proofs.Common.{◌<◌, ℕ, sym, subst, length, get_or, arith}
use Rattle.std.proofs.lemmas.List.{length_push, get_or_read}
use Rattle.local_mesh.specs.declared.types.RankMesh.{RankMesh}
use Rattle.local_mesh.specs.LocalMesh.{IsRankMesh}
use Rattle.colouring.specs.declared.types.Colours.{Colours}
use Rattle.colouring.specs.Colours.{AreColours}
use Rattle.loop_plan.proofs.SitePlanning.{one_each}
use Rattle.loop_plan.proofs.sites.colours_by_rank.Goals as goal

pub colour-requires-clause-rank : goal.colour-requires-clause-rank
colour-requires-clause-rank c =
    let d = c.requires.ranks.1 in
    let m : RankMesh = c.index-ranks-rank.result in
    let l : c.loop-rank.rank < d.owners.ranks = omega (arith, c.loop-rank-test.true, c.loop-rank.auto.rank-end, d.distributed.are_meshes.count) in
    (d.owners, d.numbers, c.loop-rank.rank, subst (IsRankMesh c.args.mesh.now d.owners d.numbers c.loop-rank.rank) (sym c.index-ranks-rank.is) (d.distributed.are_meshes.ranks c.loop-rank.rank m l))

pub loop-rank-preserved : goal.loop-rank-preserved
loop-rank-preserved c =
    let xs = c.loop-rank.colours.items in
    let k : ℕ = c.loop-rank.rank in
    let meshes = c.args.ranks.now in
    let v : Colours = c.in_ok-colour.field-0 in
    let l : k < length meshes = omega (arith, c.loop-rank-test.true, c.loop-rank.auto.rank-end) in
    rw c.in_ok-push.ensures.items (
      omega (arith, length_push xs v, c.loop-rank.invariant.0),
      λ r m d. one_each xs v k
          (λ i x. AreColours c.args.mesh.now (get_or meshes i m).maps.items c.args.args.now (get_or c.args.places.now i 0) c.args.block x)
          c.loop-rank.invariant.0
          (subst (λ (z : RankMesh). AreColours c.args.mesh.now z.maps.items c.args.args.now (get_or c.args.places.now k 0) c.args.block v)
          (get_or_read meshes k c.index-ranks-rank.result l c.index-ranks-rank.is m) c.in_ok-colour.ensures)
          (λ i e. c.loop-rank.invariant.1 i m e) r d,
    )
