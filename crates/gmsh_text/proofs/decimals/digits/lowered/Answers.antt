use Rattle.std.proofs.Common.{◌≤◌, arith}
use Rattle.gmsh_text.proofs.decimals.Quotients.{lower-none, lower-step, digit-few, low-few}
use Rattle.gmsh_text.proofs.decimals.digits.lowered.Goals as goal

pub loop-i-init : goal.loop-i-init
loop-i-init c = record { value = lower-none c.args.scale c.args.carry c.args.digits.now; few = c.requires.carry }

pub loop-i-preserved : goal.loop-i-preserved
loop-i-preserved c =
    let few : c.from.result ≤ 9 = digit-few _ _ c.requires.digits (omega arith) c.from.ensures in
    record {
      value = rw c.from.ensures (rw c.loop-i.invariant.value (lower-step c.args.scale c.args.carry c.args.digits.now c.loop-i.i c.loop-i-test.true c.loop-i.auto.i));
      few = low-few _ _ _ few c.loop-i.invariant.few;
    }
