use Rattle.std.proofs.Common.{◌≡◌, ◌≤◌, ◌+◌, max, arith}
use Rattle.colouring.proofs.Filling.{filled_over, full_word}
use Rattle.colouring.proofs.masks.Masks.pass_one.Goals as goal

pub loop-end-preserved : goal.loop-end-preserved
loop-end-preserved c =
    let m = c.args.self.now in
    let t = c.args.target in
    let e : c.max-end.result ≡ max c.known.result (c.loop-end.end + 1) = c.max-end.ensures in
    let f : c.args.number ≤ c.loop-end.end = c.loop-end.invariant.from in
    record {
      from = omega arith;
      filled = filled_over m t t c.args.number c.loop-end.end c.known.result c.max-end.result c.loop-end.invariant.filled
          (full_word m t c.loop-end.end c.word.result c.word.ensures c.if-word.true) c.known.ensures.filled (omega arith);
    }
