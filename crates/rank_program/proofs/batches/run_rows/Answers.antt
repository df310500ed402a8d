use Rattle.std.proofs.Common.{◌≡◌, true, arith}
use Rattle.std.proofs.lemmas.Grind.{common_steps}
use Rattle.rank_state.specs.Stops.{stop_in}
use Rattle.rank_program.specs.Rooms.{most_ways, most_columns}
use Rattle.rank_program.specs.LocalRuns.{share_in}
use Rattle.rank_program.proofs.BatchRuns.{goes_nowhere}
use Rattle.rank_program.proofs.RowsGoOn.{rows_go_on}
use Rattle.rank_program.proofs.batches.run_rows.Goals as goal

pub returns-then-not-all_count-clause-runs : goal.returns-then-not-all_count-clause-runs
returns-then-not-all_count-clause-runs g c = goes_nowhere c.args.run.now.local.now c.args.at (share_in c.args.run.now.local.now c.args.share.now)

pub returns-clause-room : goal.returns-clause-room
returns-clause-room g c = c.run_batch-ran.ensures.room most_ways most_columns most_columns c.requires.room

pub returns-clause-runs : goal.returns-clause-runs
returns-clause-runs g c =
    let can = c.requires.can in
    let share = c.args.share.now in
    let all = c.requires.lent.memory in
    let counted : c.all_count.result ≡ true = grind (arith, common_steps, c.if-not-all_count.false) in
    rows_go_on c.args.run.now.local.now c.args.run.now.rows can.is can.rows can.steps
    c.steps_stand.ensures c.windows_stand.ensures.here c.windows_stand.ensures.cells c.element_windows_stand.ensures c.frames_are_reached.ensures c.finishes_here.ensures
    share.memory.now (omega (arith, all)) c.args.at c.args.count c.run_batch-ran.result c.run_batch-ran.ensures.few c.requires.fits
    c.batch_at-batch.result c.batch_at-batch.ensures (c.all_count.ensures counted)
    (stop_in share.fault) c.run_batch-ran.new.memory share.partials.now c.run_batch-ran.new.partials c.run_batch-ran.auto.memory c.run_batch-ran.ensures.ran
