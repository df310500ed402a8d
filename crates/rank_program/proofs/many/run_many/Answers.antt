use Rattle.std.proofs.Common.{◌≡◌, ◌≤◌, ◌+◌, true, length, subst, sym, arith}
use Rattle.std.proofs.lemmas.Grind.{common_steps}
use Rattle.std.proofs.lemmas.List.{length-take-le}
use Rattle.rank_state.specs.Stops.{stop_in}
use Rattle.run_model.specs.Arguments.{modes_of}
use Rattle.run_model.specs.Laws.{site_of}
use Rattle.rank_program.specs.Batches.{BeginsAt}
use Rattle.rank_program.specs.LocalArgs.{places_in}
use Rattle.rank_program.specs.LocalRuns.{share_in}
use Rattle.rank_program.specs.Sound.{program_in}
use Rattle.rank_program.proofs.BatchRuns.{goes_nowhere}
use Rattle.rank_program.proofs.InManyRows.{part_length, part_are, can_run, in_rows}
use Rattle.rank_program.proofs.RowsGoOn.{rows_go_on}
use Rattle.rank_program.proofs.many.run_many.Goals as goal

pub returns-then-count-eq0-clause-runs : goal.returns-then-count-eq0-clause-runs
returns-then-count-eq0-clause-runs g c = goes_nowhere c.args.run.now.local.now c.args.at (share_in c.args.run.now.local.now c.args.share.now)

pub returns-then-not-all_count-clause-runs : goal.returns-then-not-all_count-clause-runs
returns-then-not-all_count-clause-runs g c = goes_nowhere c.args.run.now.local.now c.args.at (share_in c.args.run.now.local.now c.args.share.now)

pub run_at_once-requires-clause-can : goal.run_at_once-requires-clause-can
run_at_once-requires-clause-can g c κs within =
    let l = c.args.run.now.local.now in
    let at = c.args.at in
    let count = c.min-count.result in
    let fits : at + count ≤ length l.places.now = omega arith in
    let part = c.part_at-part.result.now in
    let size = part_length l.places.now at count fits part c.part_at-part.ensures in
    let are = part_are l.places.now at count fits part c.part_at-part.ensures in
    can_run l c.args.run.now.rows c.requires.can.rows c.requires.can.is _
    (length-take-le l.part.now.cells c.args.share.now.memory.now (let all = c.requires.lent.memory in omega (arith, all))) part
    (λ j lt. subst (BeginsAt l) (sym (are j (omega (arith, lt, size)))) (c.requires.can.steps (at + j) (omega (arith, lt, size, fits))))

pub run_at_once-requires-clause-in_rows : goal.run_at_once-requires-clause-in_rows
run_at_once-requires-clause-in_rows g c κs within =
    let l = c.args.run.now.local.now in
    let at = c.args.at in
    let count = c.min-count.result in
    let fits : at + count ≤ length l.places.now = omega arith in
    let part = c.part_at-part.result.now in
    let size = part_length l.places.now at count fits part c.part_at-part.ensures in
    let are = part_are l.places.now at count fits part c.part_at-part.ensures in (
      modes_of (program_in l.program.now) (site_of (program_in l.program.now) l.item),
      (λ x. places_in x l.args.now c.requires.can.rows.stand),
      in_rows l c.args.run.now.rows c.requires.can.rows c.requires.can.is _
          (length-take-le l.part.now.cells c.args.share.now.memory.now (let all = c.requires.lent.memory in omega (arith, all))) part
          (λ j lt. subst (BeginsAt l) (sym (are j (omega (arith, lt, size)))) (c.requires.can.steps (at + j) (omega (arith, lt, size, fits)))),
    )

pub returns-clause-few : goal.returns-clause-few
returns-clause-few g c =
    let places = c.args.run.now.local.now.places.now in
    let count = c.min-count.result in
    let fits : c.args.at + count ≤ length places = omega arith in
    let size = part_length places c.args.at count fits c.part_at-part.result.now c.part_at-part.ensures in
    omega (arith, size, c.run_at_once.ensures.few)

pub returns-clause-runs : goal.returns-clause-runs
returns-clause-runs g c =
    let l = c.args.run.now.local.now in
    let can = c.requires.can in
    let share = c.args.share.now in
    let at = c.args.at in
    let count = c.min-count.result in
    let fits : at + count ≤ length l.places.now = omega arith in
    let part = c.part_at-part.result.now in
    let size = part_length l.places.now at count fits part c.part_at-part.ensures in
    let are = part_are l.places.now at count fits part c.part_at-part.ensures in
    let all = c.requires.lent.memory in
    let counted : c.all_count.result ≡ true = grind (arith, common_steps, c.if-not-all_count.false) in
    rows_go_on l c.args.run.now.rows can.is can.rows can.steps
    c.steps_stand.ensures c.windows_stand.ensures.here c.windows_stand.ensures.cells c.element_windows_stand.ensures c.frames_are_reached.ensures c.finishes_here.ensures
    share.memory.now (omega (arith, all)) at (length part) c.run_at_once.result c.run_at_once.ensures.few (omega (arith, size, fits))
    part (λ j lt. are j (omega (arith, lt, size))) (λ j lt. c.all_count.ensures counted j (omega (arith, lt, size)))
    (stop_in share.fault) c.run_at_once.new.memory share.partials.now c.run_at_once.new.partials c.run_at_once.auto.memory c.run_at_once.ensures.ran
