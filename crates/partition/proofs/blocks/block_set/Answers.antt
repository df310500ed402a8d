use Rattle.std.proofs.Common.{◌≡◌, ◌<◌, ℕ, arith}
use Rattle.std.proofs.lemmas.List.{length_push}
use Rattle.partition.specs.Block.{InBlock}
use Rattle.partition.proofs.Shares.{each_more}
use Rattle.partition.proofs.blocks.block_set.Goals as goal

pub loop-element-preserved : goal.loop-element-preserved
loop-element-preserved c =
    let xs = c.loop-element.owners.items in
    let y : ℕ = c.block_owner.result in
    let n : ℕ = c.loop-element.element in
    rw c.in_ok-push.ensures.items (
      omega (arith, length_push xs y),
      each_more xs y n (λ x i. InBlock c.args.size c.args.ranks i x) c.loop-element.invariant.0 c.loop-element.invariant.1 c.block_owner.ensures.block,
      each_more xs y n (λ x i. i < c.args.ranks) c.loop-element.invariant.0 c.loop-element.invariant.2 c.block_owner.ensures.within,
      each_more xs y n (λ x k. (i : ℕ) → InBlock c.args.size c.args.ranks i x → i ≡ k) c.loop-element.invariant.0 c.loop-element.invariant.3 c.block_owner.ensures.only,
    )
