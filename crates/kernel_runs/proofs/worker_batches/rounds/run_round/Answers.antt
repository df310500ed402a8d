use Rattle.std.proofs.Common.{refl, map, length}
use Rattle.std.specs.Prelude.{slice_index}
use Rattle.kernel_model.specs.Framed.{target_of}
use Rattle.rank_state.specs.Windows.{firsts}
use Rattle.kernel_runs.proofs.row_batches.SomeRows.{no_rows}
use Rattle.kernel_runs.proofs.worker_batches.rounds.run_round.Goals as goal

pub returns-then-not-all_differ-clause-ran : goal.returns-then-not-all_differ-clause-ran
returns-then-not-all_differ-clause-ran g c modes stand runs =
    let y = c.args.rows.now in
    no_rows y.code.now.kernel.now y.constants.now (firsts y.variables.now y.scalars.now) y.scalars.now
    (λ l. map target_of (stand (slice_index c.args.places.now l))) c.args.memory.now c.args.memory.now c.args.partials.now c.args.partials.now refl refl

pub put_all-requires-clause-apart : goal.put_all-requires-clause-apart
put_all-requires-clause-apart g c =
    let h = c.requires.in_rows in
    c.places_stay_apart.ensures c.args.rows.now (length c.args.memory.now) h.0 h.1 c.args.places.now (length c.args.places.now) h.2
