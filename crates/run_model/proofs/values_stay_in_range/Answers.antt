use Rattle.run_model.proofs.HostRange.{first_values_in_range, hosts_keep_range}
use Rattle.run_model.proofs.values_stay_in_range.Goals as goal

pub returns : goal.returns
returns c = record { first = first_values_in_range; hosts = hosts_keep_range c.operators_stay_in_range.ensures }
