use Rattle.std.proofs.Common.{◌≤◌, ◌<◌, arith}
use Rattle.colouring.proofs.Filling.{filled_on, kept_filled, kept_twice}
use Rattle.colouring.proofs.masks.Masks.pass_two.Goals as goal

pub loop-end-init : goal.loop-end-init
loop-end-init c =
    let m = c.args.self.now in
    let e : c.args.number ≤ c.known-end.result = c.known-end.ensures.from in
    let n = c.in_ok-next.ensures in
    record {
      from = e;
      on = n.from;
      filled = filled_on m c.args.a c.args.b c.args.number c.known-end.result c.in_ok-next.next c.known-end.ensures.filled n.filled;
      sound = n.sound;
      kept = n.kept;
      few = omega arith;
    }

pub loop-end-preserved : goal.loop-end-preserved
loop-end-preserved c =
    let i = c.loop-end.invariant in
    let m = c.args.self.now in
    let n = c.in_ok-next-2.ensures in
    let a : c.args.number ≤ c.loop-end.end = i.from in
    let b : c.loop-end.end < c.loop-end.next = c.loop-end-test.true in
    let d : c.loop-end.steps ≤ c.loop-end.end = i.few in
    record {
      from = omega arith;
      on = n.from;
      filled = filled_on m c.args.a c.args.b c.args.number c.loop-end.next c.in_ok-next-2.next i.filled
          (kept_filled m c.loop-end.self i.kept c.args.a c.args.b c.loop-end.next c.in_ok-next-2.next n.filled);
      sound = n.sound;
      kept = kept_twice m c.loop-end.self c.pass_some-in-loop-end.new.self i.kept n.kept;
      few = omega arith;
    }
