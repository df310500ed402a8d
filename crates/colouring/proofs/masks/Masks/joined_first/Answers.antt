use Rattle.std.proofs.Common.{◌<◌, ◌∙◌, get_or, length, arith}
use Rattle.std.proofs.lemmas.List.{get_or_default}
use Rattle.colouring.specs.Masks.{mask_of}
use Rattle.colouring.proofs.Bits.{joined_step}
use Rattle.colouring.proofs.masks.Masks.joined_first.Goals as goal

pub loop-k-preserved : goal.loop-k-preserved
loop-k-preserved c =
    let t = get_or c.args.targets.now c.loop-k.k 0 in
    let inside : t < length c.args.self.now.first.items = c.requires.targets c.loop-k.k (omega (arith, c.loop-k.auto.k, c.requires.end)) in
    rw (c.index.ensures ∙ get_or_default c.args.self.now.first.items t c.index.result.now 0 inside)
    (joined_step (λ t. mask_of c.args.self.now t 0) c.args.targets.now c.loop-k.all c.args.start c.loop-k.k c.loop-k.auto.k c.loop-k.invariant)
