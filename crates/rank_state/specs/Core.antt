-- A kernel's run on the windows of an element.
use Rattle.std.specs.Prelude.{ℤ, List, Result, Ok, Err, Option, Some, None}
use Rattle.schedule_model.specs.Layout.{Core, Faults, Leaves}

-- a kernel's run that left these windows, unless its body had a fault
abbrev pub ran_of : {A F : Type 0} → List ℤ → Result A F → Core F
ran_of ws (Ok x) = Leaves ws
ran_of ws (Err f) = Faults f

-- the fault of a kernel's run, where it has one
abbrev pub fault_of : {F : Type 0} → Core F → Option F
fault_of (Faults f) = Some f
fault_of (Leaves ws) = None
