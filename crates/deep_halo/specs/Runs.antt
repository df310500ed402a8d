-- What a run by chains answers.
use Rattle.std.specs.Prelude.{◌≡◌, ◌++◌, Bool, Option, Some, None}
use Rattle.kernel_model.specs.declared.types.faults.KernelFault.{KernelFault}
use Rattle.mesh_decl.specs.declared.owners.Owners.{Owners}
use Rattle.schedule_model.specs.Sequential.{Stop}
use Rattle.bound_program.specs.Values.{BoundValue}
use Rattle.run_model.specs.Programs.{printed, first_fault}
use Rattle.chain_model.specs.Outcomes.{chains_run, chains_output, dump_after}
use Rattle.deep_halo.specs.declared.runs.ChainStop.{ChainStop}
use Rattle.deep_halo.specs.declared.runs.ChainOutcome.{ChainOutcome}

-- a stop as the machine has it
abbrev pub stop_of : ChainStop → Stop KernelFault
stop_of s = record { item = s.item; element = s.element; fault = s.fault }

-- a stop as the machine has it, where there is one
abbrev pub stop_in : Option ChainStop → Option (Stop KernelFault)
stop_in None = None
stop_in (Some s) = Some (stop_of s)

module _ (b : BoundValue) (o : Owners) (dump : Bool) (x : ChainOutcome) where
  -- the output and the stop are those of the machine of chains
  pub record IsRun : Type 0 where
    pub output : x.out.items ≡ chains_output b o dump
    pub stop : stop_in x.stop ≡ (chains_run b o).stop

  -- the output is what the program prints, with the dump behind it, and the stop is its first fault
  pub record PrintsTheProgram : Type 0 where
    pub output : x.out.items ≡ printed b ++ dump_after b o dump (chains_run b o) (chains_run b o).stop
    pub stop : stop_in x.stop ≡ first_fault b
