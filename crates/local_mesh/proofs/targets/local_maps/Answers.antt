use Rattle.std.proofs.Common.{arith}
use Rattle.std.proofs.lemmas.List.{length_push}
use Rattle.local_mesh.specs.LocalMesh.{AreLocalTargets}
use Rattle.local_mesh.proofs.Growing.{each_row}
use Rattle.local_mesh.proofs.targets.local_maps.Goals as goal

pub loop-map-preserved : goal.loop-map-preserved
loop-map-preserved c =
    let xs = c.loop-map.maps.items in
    let v = c.in_ok-local_map.field-0 in
    rw c.in_ok-push.ensures.items (
      omega (arith, length_push xs v, c.loop-map.invariant.0),
      each_row xs v c.loop-map.map (λ m t. AreLocalTargets c.args.mesh.now m c.args.sets.now t) c.loop-map.invariant.0 c.loop-map.invariant.1 c.in_ok-local_map.ensures,
    )
