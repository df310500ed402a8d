use Rattle.std.proofs.Common.{◌≡◌, ℕ, ℤ, List, ◌<◌, ◌-◌, ◌*◌, length, ◌+◌, [], ◌∷◌, ◌++◌, take, drop, get_or, sym, ap, subst, ◌∙◌, arith, add-one, drop-cons}
use Rattle.std.proofs.lemmas.List.{get_or_read, take_all}
use Rattle.schedule_steps.specs.declared.step.Step.TheVariants.{Begin}
use Rattle.schedule_model.specs.Layout.{by_place}
use Rattle.schedule_model.specs.Flat.{flat_from}
use Rattle.rank_state.specs.Shows.{Shows}
use Rattle.rank_state.specs.Groups.{begins, Distinct, Planned, AllShut}
use Rattle.rank_exec.proofs.Driving.{from_push}
use Rattle.rank_exec.proofs.Grouping.{take_next, begins_push, still_shut}
use Rattle.rank_program.specs.declared.tasks.Task.{Task}
use Rattle.rank_program.specs.Jobs.{part, no_task, task_at}
use Rattle.rank_exec.specs.Tasks.{IsRun}
use Rattle.rank_exec.proofs.Tasking.{run_later}
use Rattle.rank_program.specs.Sound.{setup_in, layout_in, tables_in}
use Rattle.rank_exec.proofs.group_steps.open_all.Goals as goal

pub loop-i-preserved : goal.loop-i-preserved
loop-i-preserved c =
    let e : drop c.loop-i.i c.args.group.now.places.now ≡ get_or c.args.group.now.places.now c.loop-i.i 0 ∷ drop (c.loop-i.i + 1) c.args.group.now.places.now =
    drop-cons c.args.group.now.places.now c.loop-i.i 0 c.loop-i-test.true ∙ ap (λ n. get_or c.args.group.now.places.now c.loop-i.i 0 ∷ drop n c.args.group.now.places.now) (sym (add-one c.loop-i.i)) in
    let planned = subst (Planned (by_place (setup_in c.args.program.now) (layout_in c.args.program.now)) c.args.group.now.item c.args.group.now.rank) e c.loop-i.invariant.planned in
    let shut = subst (AllShut c.loop-i.machine.frames.panes c.args.group.now.rank) e c.loop-i.invariant.shut in
    let distinct = subst Distinct e c.loop-i.invariant.distinct in
    let next : begins c.args.group.now.item c.args.group.now.rank (take (c.loop-i.i + 1) c.args.group.now.places.now) ≡ begins
    c.args.group.now.item c.args.group.now.rank (take c.loop-i.i c.args.group.now.places.now) ++
    (Begin c.args.group.now.item c.args.group.now.rank (get_or c.args.group.now.places.now c.loop-i.i 0) ∷ []) =
    ap (begins c.args.group.now.item c.args.group.now.rank) (take_next c.args.group.now.places.now c.loop-i.i 0 c.loop-i-test.true)
    ∙ begins_push c.args.group.now.item c.args.group.now.rank (take c.loop-i.i c.args.group.now.places.now)
    (get_or c.args.group.now.places.now c.loop-i.i 0) in
    let before = c.loop-i.invariant.shows c.requires.shows.0 c.requires.shows.1 in
    record {
      planned = planned.1;
      shut = still_shut c.loop-i.machine.frames.panes c.open_one.new.machine.frames.panes c.args.group.now.rank
          (get_or c.args.group.now.places.now c.loop-i.i 0) (drop (c.loop-i.i + 1) c.args.group.now.places.now) distinct.0
          (λ y ne closed. c.begin_opens.ensures.others (setup_in c.args.program.now) (layout_in c.args.program.now)
          (tables_in c.args.program.now) c.loop-i.machine c.open_one.new.machine
          (flat_from (setup_in c.args.program.now) (layout_in c.args.program.now)
          (begins c.args.group.now.item c.args.group.now.rank (take c.loop-i.i c.args.group.now.places.now)) c.requires.shows.0)
          c.args.group.now.item c.args.group.now.rank (get_or c.args.group.now.places.now c.loop-i.i 0) y before
          (c.open_one.ensures.shows (flat_from (setup_in c.args.program.now) (layout_in c.args.program.now)
          (begins c.args.group.now.item c.args.group.now.rank (take c.loop-i.i c.args.group.now.places.now)) c.requires.shows.0) before)
          ne closed)
          shut.1;
      distinct = distinct.1;
      shows = λ f h.
          let at = c.loop-i.invariant.shows f h in
          subst (Shows (setup_in c.args.program.now) (layout_in c.args.program.now) (tables_in c.args.program.now) c.open_one.new.machine)
          (sym (ap (λ z. flat_from (setup_in c.args.program.now) (layout_in c.args.program.now) z f) next
          ∙ from_push (setup_in c.args.program.now) (layout_in c.args.program.now)
          (begins c.args.group.now.item c.args.group.now.rank (take c.loop-i.i c.args.group.now.places.now))
          (Begin c.args.group.now.item c.args.group.now.rank (get_or c.args.group.now.places.now c.loop-i.i 0)) f at.stop))
          (c.open_one.ensures.shows (flat_from (setup_in c.args.program.now) (layout_in c.args.program.now)
          (begins c.args.group.now.item c.args.group.now.rank (take c.loop-i.i c.args.group.now.places.now)) f) at);
      space = c.open_one.ensures.space;
      mail = c.open_one.ensures.mail ∙ c.loop-i.invariant.mail;
      frames = (let m = c.open_one.ensures.frames in omega (arith, c.loop-i.invariant.frames));
    }

pub open_one-requires-clause-ran : goal.open_one-requires-clause-ran
open_one-requires-clause-ran c =
    let window = c.args.buffers.now.window in
    let at = c.loop-i.i * c.args.buffers.now.window in
    let wide : c.loop-i.i * c.args.buffers.now.window + c.args.buffers.now.window - c.loop-i.i * c.args.buffers.now.window ≡ c.args.buffers.now.window = omega arith in
    let i_lt : c.loop-i.i < length c.args.group.now.places.now = c.loop-i-test.true in
    let in_tasks : c.loop-i.i < length c.args.buffers.now.tasks.items = omega (arith, i_lt, c.requires.count) in
    let task : c.index.result.now ≡ task_at c.args.buffers.now.tasks.items c.loop-i.i = get_or_read c.args.buffers.now.tasks.items c.loop-i.i c.index.result.now in_tasks c.index.ensures no_task in
    let ran = run_later (setup_in c.args.program.now) (layout_in c.args.program.now) (tables_in c.args.program.now) c.args.group.now.item
    c.args.group.now.rank (get_or c.args.group.now.places.now c.loop-i.i 0) (task_at c.args.buffers.now.tasks.items c.loop-i.i).cells
    (part c.args.buffers.now.window c.loop-i.i c.args.buffers.now.staging.items) (take c.loop-i.i c.args.group.now.places.now)
    c.args.machine.now c.loop-i.machine
    c.requires.shows.0 c.requires.shows.1 (c.loop-i.invariant.shows c.requires.shows.0 c.requires.shows.1) (c.requires.ran c.loop-i.i i_lt) in
    let Ran = λ (n : ℕ) (w : List ℤ). IsRun (setup_in c.args.program.now) (layout_in c.args.program.now) (tables_in c.args.program.now)
    c.args.group.now.item c.args.group.now.rank (get_or c.args.group.now.places.now c.loop-i.i 0) c.loop-i.machine n w in
    subst (λ (t : Task). Ran t.cells (take (at + window - at) (drop at c.deref.result.now))) (sym task)
    (subst (λ n. Ran (task_at c.args.buffers.now.tasks.items c.loop-i.i).cells (take n (drop at c.deref.result.now))) (sym wide)
    (subst (λ s. Ran (task_at c.args.buffers.now.tasks.items c.loop-i.i).cells (take window (drop at s))) (sym c.deref.ensures.value) ran))

pub returns-clause-shows : goal.returns-clause-shows
returns-clause-shows c f h =
    let p = c.args.program.now in
    subst (λ ps. Shows (setup_in p) (layout_in p) (tables_in p) c.loop-i.machine (flat_from (setup_in p) (layout_in p) (begins c.args.group.now.item c.args.group.now.rank ps) f))
    (take_all c.loop-i.i c.args.group.now.places.now (omega (arith, c.loop-i-test.false))) (c.loop-i.invariant.shows f h)
