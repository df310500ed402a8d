use Rattle.std.proofs.Common.{◌<◌, arith, length, ℕ, get_or}
use Rattle.lemmas.specs.Below.{row}
use Rattle.local_mesh.specs.RankSet.{has_at}
use Rattle.local_mesh.proofs.Inverse.{ordered_step}
use Rattle.local_mesh.proofs.groups.push_listed.Goals as goal

pub push_each-requires-clause-ranks : goal.push_each-requires-clause-ranks
unfolding has_at
push_each-requires-clause-ranks c = λ r l t. (let b = c.requires.below (get_or c.args.order.now c.loop-element.element-index 0) r l t in omega (arith, b, c.loop-element.auto.lists))

pub loop-element-preserved : goal.loop-element-preserved
unfolding has_at
loop-element-preserved c =
    let n : ℕ = c.loop-element.element-index in
    let order : ℕ → ℕ = λ j. get_or c.args.order.now j 0 in
    λ r l. (let lr : r < length c.loop-element.lists = omega (arith, l, c.push_each.auto.lists) in
    ordered_step (row c.push_each.new.lists r) (row c.loop-element.lists r) n order (λ x. has_at c.args.sets.now x r) (c.loop-element.invariant r lr) (c.in_ok-push_each.ensures r lr))
