use Rattle.kernel_model.specs.declared.types.faults.KernelFault.{KernelFault}
use Rattle.chain_model.specs.Machine.{ChainState, ranks_run}
use Rattle.chain_model.specs.Slices.{slicing_of}
use Rattle.deep_halo.specs.Running.{Runs}
use Rattle.deep_halo.specs.Loops.{HasConstants, program_of_loop, owners_of_loop}
use Rattle.deep_halo.proofs.chain_ranks.ranks.run_ranks.Given as goal

abbrev pub invariant-loop-rank : goal.invariant-loop-rank
invariant-loop-rank l =
    (st : ChainState KernelFault) → HasConstants (program_of_loop l.work) l.work.values.now st
    → Runs (program_of_loop l.work) (owners_of_loop l.work) l.work.begun l.work.all.now.site l.initial.memory l.initial.partials l.initial.fault st
    → Runs (program_of_loop l.work) (owners_of_loop l.work) l.work.begun l.work.all.now.site l.memory l.partials l.fault
    (ranks_run (slicing_of (program_of_loop l.work) (owners_of_loop l.work)) l.work.item l.rank st)
