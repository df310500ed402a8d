use Rattle.std.proofs.Common.{refl, map}
use Rattle.std.specs.Prelude.{slice_index}
use Rattle.kernel_model.specs.Framed.{target_of}
use Rattle.rank_state.specs.Windows.{firsts}
use Rattle.kernel_runs.proofs.row_batches.SomeRows.{fewer, no_rows}
use Rattle.kernel_runs.proofs.row_batches.batch.run_batch.Goals as goal

pub returns-then-ran-eq0-clause-ran : goal.returns-then-ran-eq0-clause-ran
returns-then-ran-eq0-clause-ran c modes stand runs =
    let y = c.args.rows.now in
    no_rows y.code.now.kernel.now y.constants.now (firsts y.variables.now y.scalars.now) y.scalars.now
    (λ l. map target_of (stand (slice_index c.args.batch.now l))) c.args.memory.now c.args.memory.now c.args.partials.now c.args.partials.now refl refl

pub returns-clause-ran : goal.returns-clause-ran
returns-clause-ran c modes stand runs =
    c.put_aside.ensures.ran modes stand
    (fewer c.args.rows.now _ modes stand c.args.batch.now c.args.count c.run_aside-ran.result c.run_aside-ran.ensures.few runs)
