use Rattle.std.proofs.Common.{get_or, sym, subst, arith}
use Rattle.rank_program.specs.LocalLoops.{VariablesStand}
use Rattle.rank_program.proofs.batches.run_batches.Goals as goal

pub row_loop-requires-clause-step : goal.row_loop-requires-clause-step
row_loop-requires-clause-step g c =
    (get_or c.args.local.now.places.now 0 0, c.requires.steps 0 (let some = c.if-local-lt-FEWEST.false in omega (arith, some)))

pub row_loop-requires-clause-stand : goal.row_loop-requires-clause-stand
row_loop-requires-clause-stand g c = subst (VariablesStand c.args.local.now) (sym c.as_slice.ensures) c.requires.room.stand
