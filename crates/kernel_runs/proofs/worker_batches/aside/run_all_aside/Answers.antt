use Rattle.std.proofs.Common.{ℕ, ◌≡◌, ◌+◌, subst, arith}
use Rattle.kernel_runs.specs.Rounds.{CanRunBatch, RanBatch}
use Rattle.kernel_runs.proofs.worker_batches.Parts.{made_each, takes_each}
use Rattle.kernel_runs.proofs.worker_batches.aside.run_all_aside.Goals as goal

pub run_parts-requires-clause-takes : goal.run_parts-requires-clause-takes
run_parts-requires-clause-takes g c κs within =
    takes_each (λ (n : ℕ). CanRunBatch c.args.rows.now c.args.memory.now c.args.places.now n) 0 c.args.parts.now
    (λ j lt.
    let e : j ≡ 0 + j = omega arith in
    subst (λ (n : ℕ). CanRunBatch c.args.rows.now c.args.memory.now c.args.places.now n) e (record { can = c.requires.can; there = c.requires.there j lt }))

pub returns : goal.returns
returns g c =
    made_each (RanBatch c.args.rows.now c.args.memory.now c.args.places.now) 0 c.args.parts.now c.run_parts.new.parts c.run_parts.ensures
