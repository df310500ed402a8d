use Rattle.std.proofs.Common.{◌∙◌, arith}
use Rattle.std.proofs.lemmas.List.{length-set}
use Rattle.rank_program.proofs.LocalArgs.{one_more}
use Rattle.rank_program.proofs.local_args.put_local_args.Goals as goal

pub loop-i-preserved : goal.loop-i-preserved
loop-i-preserved c =
    let long = c.loop-i.invariant.length in
    let lt = c.loop-i-test.true in
    record {
      length = length-set c.loop-i.locals c.loop-i.i c.local_arg.result ∙ long;
      each = one_more c.args.mesh.now c.args.part.now c.args.args.now c.loop-i.locals c.loop-i.i c.local_arg.result (omega (arith, long, lt)) c.loop-i.invariant.each _ lt c.local_arg.ensures;
    }

pub returns : goal.returns
returns c =
    let all = c.loop-i-test.false in
    (c.loop-i.invariant.length, λ i a l lt. c.loop-i.invariant.each i a l (omega (arith, all, lt)))
