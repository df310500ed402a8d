use Rattle.kernel_runs.proofs.in_place.running.run_here.Goals as goal

pub returns-then-kernel-clause-fault : goal.returns-then-kernel-clause-fault
returns-then-kernel-clause-fault c spans ts h = c.run_clean.ensures.fault c.args.kernel.now.marks.now spans ts h

pub returns-then-kernel-clause-memory : goal.returns-then-kernel-clause-memory
returns-then-kernel-clause-memory c spans ts h item = c.run_clean.ensures.memory c.args.kernel.now.marks.now spans ts h item
