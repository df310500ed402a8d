use Rattle.std.proofs.Common.{◌+◌, ◌≤◌, length, get_or, arith}
use Rattle.schedule_model.specs.Layout.{by_place}
use Rattle.rank_program.specs.Sound.{setup_in, layout_in, tables_in}
use Rattle.rank_exec.specs.Tasks.{IsLoaded}
use Rattle.rank_exec.proofs.Tasking.{planned_at, one_more, still_enough, fewer, kept_on}
use Rattle.rank_exec.proofs.group_steps.load_all.Goals as goal

pub load_next-requires-clause-planned : goal.load_next-requires-clause-planned
load_next-requires-clause-planned c = planned_at (by_place (setup_in c.args.program.now) (layout_in c.args.program.now))
    c.args.group.now.item c.args.group.now.rank c.args.group.now.places.now c.requires.planned c.loop-place.place-index
    c.loop-place-test.true

pub load_next-requires-clause-buffers : goal.load_next-requires-clause-buffers
load_next-requires-clause-buffers c =
    let stride = (tables_in c.args.program.now).stride in
    let locals = c.args.program.now.locals in
    let few : length c.loop-place.buffers.tasks.items + 1 ≤ length c.args.group.now.places.now = omega (arith, c.loop-place.invariant.count, c.loop-place-test.true) in
    fewer (length c.args.group.now.places.now) (length c.loop-place.buffers.tasks.items + 1) stride locals c.loop-place.buffers few
    (still_enough (length c.args.group.now.places.now) stride locals c.args.buffers.now c.loop-place.buffers c.loop-place.invariant.kept c.requires.buffers)

pub loop-place-preserved : goal.loop-place-preserved
loop-place-preserved c = record {
  loaded =
      one_more (λ i task w. IsLoaded (setup_in c.args.program.now) (layout_in c.args.program.now) (tables_in c.args.program.now)
      c.args.group.now.item c.args.group.now.rank (get_or c.args.group.now.places.now i 0) c.args.machine.now task w)
      c.loop-place.place-index c.loop-place.buffers c.load_next.new.buffers c.loop-place.invariant.count c.loop-place.invariant.loaded c.load_next.ensures.loaded c.load_next.ensures.others;
  count = omega (arith, c.load_next.ensures.count, c.loop-place.invariant.count);
  space = c.load_next.ensures.space;
  kept = kept_on c.args.buffers.now c.loop-place.buffers c.load_next.new.buffers c.loop-place.invariant.kept c.load_next.ensures.kept;
}
