-- A stop of the program as one of the model.
use Rattle.std.specs.Prelude.{Option, Some, None}
use Rattle.kernel_model.specs.declared.types.faults.KernelFault.{KernelFault}
use Rattle.schedule_model.specs.Sequential as model
use Rattle.rank_state.specs.declared.rank_memory.stop.Stop.{Stop}

-- a stop as the model has it
abbrev pub stop_of : Stop → model.Stop KernelFault
stop_of s = record { item = s.item; element = s.element; fault = s.fault }

-- a stop as the model has it, where there is one
abbrev pub stop_in : Option Stop → Option (model.Stop KernelFault)
stop_in None = None
stop_in (Some s) = Some (stop_of s)
