use Rattle.std.proofs.Common.{◌≡◌, ◌<◌, ◌++◌, ℕ}
use Rattle.std.specs.List.{flat_map}
use Rattle.kernel_model.specs.declared.types.faults.KernelFault.{KernelFault}
use Rattle.run_model.specs.Windows.{numbers}
use Rattle.chain_model.specs.Machine.{ChainState}
use Rattle.chain_model.specs.Dump.{store_text}
use Rattle.deep_halo.specs.Sound.{ranks_in}
use Rattle.deep_halo.specs.Running.{StoresStand}
use Rattle.deep_halo.specs.Programs.{IsHolding, program_of_run, owners_of_run}
use Rattle.deep_halo.proofs.dumps.put_stores.Given as goal

abbrev pub invariant-loop-rank : goal.invariant-loop-rank
invariant-loop-rank l = (st : ChainState KernelFault) → StoresStand (program_of_run l.program) (owners_of_run l.program) l.memory st
    → ((r : ℕ) → r < ranks_in l.program.blocks.now → IsHolding (program_of_run l.program) (owners_of_run l.program) l.begun r (st.stores r))
    → l.out.items ≡ l.initial.out.items ++ flat_map (λ r. store_text (program_of_run l.program).mesh r (st.stores r)) (numbers l.rank)
