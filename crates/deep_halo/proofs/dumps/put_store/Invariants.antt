use Rattle.std.proofs.Common.{◌≡◌, ◌++◌}
use Rattle.std.specs.List.{flat_map}
use Rattle.kernel_model.specs.declared.types.faults.KernelFault.{KernelFault}
use Rattle.run_model.specs.Windows.{numbers}
use Rattle.chain_model.specs.Machine.{ChainState}
use Rattle.chain_model.specs.Dump.{held_text}
use Rattle.deep_halo.specs.Running.{StoresStand}
use Rattle.deep_halo.specs.Programs.{IsHolding, program_of_run, owners_of_run}
use Rattle.deep_halo.proofs.dumps.put_store.Given as goal

abbrev pub invariant-loop-dat : goal.invariant-loop-dat
invariant-loop-dat l = (st : ChainState KernelFault) → StoresStand (program_of_run l.program) (owners_of_run l.program) l.memory st
    → IsHolding (program_of_run l.program) (owners_of_run l.program) l.begun l.rank (st.stores l.rank)
    → l.out.items ≡ l.initial.out.items ++ flat_map (held_text (program_of_run l.program).mesh l.rank (st.stores l.rank)) (numbers l.dat)
