use Rattle.std.proofs.Common.{◌*◌, ℕ, take, drop, subst, arith}
use Rattle.std.proofs.lemmas.List.{length_push}
use Rattle.step_judge.specs.Marks.{Marks}
use Rattle.step_judge.specs.NewRun.{IsFresh}
use Rattle.step_judge.proofs.marks.NewRuns.{one_more}
use Rattle.step_judge.proofs.marks.places.fresh_blocks.Goals as goal

pub loop-block-preserved : goal.loop-block-preserved
loop-block-preserved c =
    let xs = c.loop-block.blocks.items in
    let v : Marks = c.in_ok-fresh.field-0 in
    let k : ℕ = c.loop-block.block in
    let last : IsFresh (take c.args.size (drop (k * c.args.size) c.args.inner.now)) v = subst (λ z. IsFresh z v) c.part.ensures c.in_ok-fresh.ensures in
    rw c.in_ok-push.ensures.items (record {
      count = omega (arith, length_push xs v, c.loop-block.invariant.count);
      each = one_more (λ a m. IsFresh (take c.args.size (drop (a * c.args.size) c.args.inner.now)) m) xs v k c.loop-block.invariant.count last c.loop-block.invariant.each;
    })
