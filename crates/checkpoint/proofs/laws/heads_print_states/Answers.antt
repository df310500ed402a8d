use Rattle.checkpoint.proofs.Printed.{heads_print_states}
use Rattle.checkpoint.proofs.laws.heads_print_states.Goals as goal

pub returns : goal.returns
returns c = heads_print_states
