use Rattle.schedule_model.specs.Cells.{Variable}
use Rattle.deep_halo.specs.Sound.{program_in, ranks_in}
use Rattle.deep_halo.specs.Cells.{Values, Hold}
use Rattle.deep_halo.specs.Constants.{AreRead}
use Rattle.deep_halo.proofs.chain_ranks.chain_elements.constants.read_constants.Given as goal

abbrev pub invariant-loop-var : goal.invariant-loop-var
invariant-loop-var l = (f : Values) → Hold l.blocks l.memory f → AreRead (program_in l.blocks) (λ v. f (ranks_in l.blocks) (Variable v)) l.var l.values
