-- What a run by chains gives.
use Rattle.std.specs.Prelude.{ℕ, Bool, true, false, List, [], ◌++◌, Option, Some, None, length, codes}
use Rattle.std.specs.Fmt.{decimal}
use Rattle.kernel_model.specs.declared.types.faults.KernelFault.{KernelFault}
use Rattle.mesh_decl.specs.declared.owners.Owners.{Owners}
use Rattle.schedule_model.specs.Sequential.{Stop}
use Rattle.bound_program.specs.Values.{BoundValue}
use Rattle.chain_model.specs.Machine.{ChainState, chain_machine}
use Rattle.chain_model.specs.Slices.{slicing_of}
use Rattle.chain_model.specs.Counts.{chain_count, message_count}
use Rattle.chain_model.specs.Dump.{stores_text}

-- the dump behind the output, where it is asked for and nothing stopped the run
abbrev pub dump_after : BoundValue → Owners → Bool → ChainState KernelFault → Option (Stop KernelFault) → List ℕ
dump_after b o true st None = stores_text b.mesh o.ranks st.stores
dump_after b o true st (Some x) = []
dump_after b o false st x = []

module _ (b : BoundValue) (o : Owners) where
  -- the machine after the program
  abbrev pub chains_run : ChainState KernelFault
  chains_run = chain_machine (slicing_of b o)

  -- what a run by chains prints, with the dump where it is asked for
  abbrev pub chains_output : Bool → List ℕ
  chains_output dump = chains_run.output ++ dump_after b o dump chains_run chains_run.stop

  -- `ok items I chains C messages M`
  abbrev pub chains_text : List ℕ
  chains_text =
      codes "ok items " ++ decimal (length b.trace) ++ codes " chains " ++ decimal (chain_count b)
      ++ codes " messages " ++ decimal (message_count b o) ++ codes "\n"
