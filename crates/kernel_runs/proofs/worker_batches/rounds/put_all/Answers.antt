use Rattle.std.proofs.Common.{◌≡◌, ◌≤◌, ◌*◌, refl, arith}
use Rattle.kernel_runs.proofs.worker_batches.Puts.{none_put, put_more, reads_alike, some_of, part_of, ends_within, places_are}
use Rattle.kernel_runs.proofs.worker_batches.rounds.put_all.Goals as goal

pub loop-part-init : goal.loop-part-init
loop-part-init g c = record {
  put = none_put c.args.rows.now c.args.places.now c.args.memory.now c.args.partials.now;
  done_is = refl;
  left = c.requires.ran;
}

pub put_aside-requires-clause-aside : goal.put_aside-requires-clause-aside
put_aside-requires-clause-aside g c =
    let y = c.args.rows.now in
    let places = c.args.places.now in
    let m = c.args.memory.now in
    let x = c.part-item.result in
    let i = c.loop-part.part-index in
    let n = c.loop-part.done in
    let inv = c.loop-part.invariant in
    let r = (part_of y m places c.args.parts.now i x c.part-item.is c.loop-part-test.true inv.left).0 in
    c.asides_stay.ensures y x.batch x.ran x.room.numbers.items m c.loop-part.memory x.room.frame.items c.requires.can.whole
    (reads_alike y places x.batch n x.ran (ends_within y m places i n inv.done_is x r) (places_are y m places i n inv.done_is x r) m
    c.loop-part.memory c.args.partials.now c.loop-part.partials inv.put c.requires.apart c.requires.differ)
    (r.aside (some_of x.ran c.if-part-eq0.false))

pub returns-then-part-lt-ROWS-clause-ran : goal.returns-then-part-lt-ROWS-clause-ran
returns-then-part-lt-ROWS-clause-ran g c =
    let y = c.args.rows.now in
    let places = c.args.places.now in
    let m = c.args.memory.now in
    let x = c.part-item.result in
    let i = c.loop-part.part-index in
    let n = c.loop-part.done in
    let inv = c.loop-part.invariant in
    let r = (part_of y m places c.args.parts.now i x c.part-item.is c.loop-part-test.true inv.left).0 in
    (put_more y places x.batch n x.ran (ends_within y m places i n inv.done_is x r) (places_are y m places i n inv.done_is x r) m
    c.loop-part.memory c.put_aside.new.memory c.args.partials.now c.loop-part.partials c.put_aside.new.partials
    inv.put c.put_aside.auto.memory c.put_aside.auto.partials c.put_aside.ensures.ran c.put_aside.ensures.others).ran

pub loop-part-preserved : goal.loop-part-preserved
loop-part-preserved g c =
    let y = c.args.rows.now in
    let places = c.args.places.now in
    let m = c.args.memory.now in
    let x = c.part-item.result in
    let i = c.loop-part.part-index in
    let n = c.loop-part.done in
    let inv = c.loop-part.invariant in
    let both = part_of y m places c.args.parts.now i x c.part-item.is c.loop-part-test.true inv.left in
    let r = both.0 in
    let few : x.ran ≤ 64 = r.few in
    let whole = c.if-part-lt-ROWS.false in
    let is : n ≡ i * 64 = inv.done_is in
    record {
      put = put_more y places x.batch n x.ran (ends_within y m places i n inv.done_is x r) (places_are y m places i n inv.done_is x r) m
          c.loop-part.memory c.put_aside.new.memory c.args.partials.now c.loop-part.partials c.put_aside.new.partials
          inv.put c.put_aside.auto.memory c.put_aside.auto.partials c.put_aside.ensures.ran c.put_aside.ensures.others;
      done_is = omega (arith, is, few, whole);
      left = both.1;
    }
