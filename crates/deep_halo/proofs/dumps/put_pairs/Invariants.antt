use Rattle.std.proofs.Common.{◌≡◌, ◌++◌, is_some}
use Rattle.std.specs.List.{flat_map}
use Rattle.kernel_model.specs.declared.types.faults.KernelFault.{KernelFault}
use Rattle.lemmas.specs.Below.{listed}
use Rattle.chain_model.specs.Machine.{ChainState}
use Rattle.chain_model.specs.Dump.{pair_text}
use Rattle.deep_halo.specs.Running.{StoresStand}
use Rattle.deep_halo.specs.Programs.{IsHolding, program_of_run, owners_of_run}
use Rattle.deep_halo.proofs.dumps.put_pairs.Given as goal

abbrev pub invariant-loop-element : goal.invariant-loop-element
invariant-loop-element l = (st : ChainState KernelFault) → StoresStand (program_of_run l.program) (owners_of_run l.program) l.memory st
    → IsHolding (program_of_run l.program) (owners_of_run l.program) l.begun l.rank (st.stores l.rank)
    → l.out.items ≡ l.initial.out.items ++ flat_map (pair_text (program_of_run l.program).mesh (st.stores l.rank) l.dat) (listed l.element (λ y. is_some (st.stores l.rank l.dat y)))
