use Rattle.std.proofs.Common.{arith, get_or}
use Rattle.mesh_decl.specs.Mesh.{target, map_dim}
use Rattle.local_mesh.proofs.Inverse.{table_more}
use Rattle.local_mesh.proofs.targets.local_targets.Goals as goal

pub loop-element-preserved : goal.loop-element-preserved
loop-element-preserved c =
    let n = c.loop-element.element-index in
    let g = c.args.mesh.now in (
      omega (arith, c.in_ok-push_targets.ensures.length, c.loop-element.invariant.0),
      table_more c.push_targets.new.table.items c.loop-element.table.items n (map_dim g c.args.map)
          (λ k i. get_or c.args.numbers.now (target g c.args.map (get_or c.args.elements.now k 0) i) 0) c.loop-element.invariant.0
          c.in_ok-push_targets.ensures.before c.in_ok-push_targets.ensures.targets c.loop-element.invariant.1,
    )
