-- Runs of kernels that fault, and those that don't.
use Rattle.std.proofs.Common.{◌≡◌, ℤ, Some, None, List, refl}
use Rattle.schedule_model.specs.Layout.{Core, Faults, Leaves}
use Rattle.rank_state.specs.Core.{fault_of}

pub no_fault : {F : Type 0} (c : Core F) → fault_of c ≡ None → (us : List ℤ) × (c ≡ Leaves us)
no_fault (Faults x) h = cc
no_fault (Leaves us) h = (us, refl)

pub a_fault : {F : Type 0} (c : Core F) (x : F) → fault_of c ≡ Some x → c ≡ Faults x
a_fault (Faults y) x h = cc
a_fault (Leaves us) x h = cc
