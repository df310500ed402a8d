use Rattle.kernel_model.proofs.fault_order.Law as law
use Rattle.kernel_model.proofs.fault_order.laws.unchanged_after_faults.Goals as goal

pub returns : goal.returns
returns c = law.unchanged_after_faults
