use Rattle.bound_program.proofs.trace.HostValues as law
use Rattle.bound_program.proofs.trace.laws.host_values_are_kernel_values.Goals as goal

pub returns : goal.returns
returns c = law.means_the_same
