use Rattle.access_check.proofs.Small.{small_from, small_to}
use Rattle.access_check.proofs.modes.are_small.Goals as goal

pub returns-then-modes-le-ARGUMENTS : goal.returns-then-modes-le-ARGUMENTS
returns-then-modes-le-ARGUMENTS c =
    (λ h. (c.if-modes-le-ARGUMENTS.true, small_from c.args.modes.now (c.have_small_dims.ensures.0 h)), λ h. c.have_small_dims.ensures.1 (small_to c.args.modes.now h.1))
