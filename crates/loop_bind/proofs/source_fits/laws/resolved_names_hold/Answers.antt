use Rattle.loop_bind.proofs.source_fits.Assigned.{main_assigns}
use Rattle.loop_bind.proofs.source_fits.Apart.{variables_apart}
use Rattle.loop_bind.proofs.source_fits.laws.resolved_names_hold.Goals as goal

pub returns : goal.returns
returns c = λ p e. (main_assigns p e, variables_apart p e)
