use Rattle.colouring.specs.Masks.{mask_of}
use Rattle.colouring.proofs.Bits.{joined_step}
use Rattle.colouring.proofs.masks.Masks.joined.Goals as goal

pub loop-k-preserved : goal.loop-k-preserved
loop-k-preserved c = rw c.word-all.ensures (joined_step (λ t. mask_of c.args.self.now t c.args.number) c.args.targets.now c.loop-k.all c.args.start c.loop-k.k c.loop-k.auto.k c.loop-k.invariant)
