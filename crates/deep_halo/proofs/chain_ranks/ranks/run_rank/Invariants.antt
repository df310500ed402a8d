use Rattle.std.proofs.Common.{get_or}
use Rattle.kernel_model.specs.declared.types.faults.KernelFault.{KernelFault}
use Rattle.schedule_model.specs.Program.{elements}
use Rattle.run_model.specs.Programs.{program_of}
use Rattle.chain_model.specs.Machine.{ChainState, rank_run}
use Rattle.chain_model.specs.Slices.{slicing_of}
use Rattle.deep_halo.specs.Running.{Runs}
use Rattle.deep_halo.specs.Loops.{HasConstants, program_of_loop, owners_of_loop}
use Rattle.deep_halo.proofs.chain_ranks.ranks.run_rank.Given as goal

abbrev pub invariant-loop-element : goal.invariant-loop-element
invariant-loop-element l =
    (st : ChainState KernelFault) → HasConstants (program_of_loop l.work) l.work.values.now st
    → Runs (program_of_loop l.work) (owners_of_loop l.work) l.work.begun l.work.all.now.site l.initial.memory l.initial.partials l.initial.fault st
    → Runs (program_of_loop l.work) (owners_of_loop l.work) l.work.begun l.work.all.now.site l.memory l.partials l.fault
    (rank_run (slicing_of (program_of_loop l.work) (owners_of_loop l.work)) l.work.item l.rank
    (get_or l.element-items l.element-index (elements (program_of (program_of_loop l.work)) l.work.item)) st)
