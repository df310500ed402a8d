use Rattle.std.proofs.Common.{Some}
use Rattle.run_model.specs.Windows.{Whole, cell_in}
use Rattle.run_model.specs.Variables.{of_vars}
use Rattle.rank_state.specs.Windows.{operation}
use Rattle.chain_model.specs.Machine.{merged_over}
use Rattle.deep_halo.specs.Sound.{program_in, ranks_in}
use Rattle.deep_halo.specs.Cells.{Values, BlocksHold, Hold, with_target}
use Rattle.deep_halo.proofs.chain_ranks.sums.reduce_variable.Given as goal

abbrev pub invariant-loop-rank : goal.invariant-loop-rank
invariant-loop-rank l = (f p : Values) → Hold l.blocks l.initial.memory f → BlocksHold (of_vars (program_in l.blocks).vars) (ranks_in l.blocks) l.partials p
    → Hold l.blocks l.memory (with_target (ranks_in l.blocks) (Whole l.var)
    (λ i. merged_over (Some (operation l.how)) (λ r. p r (cell_in (Whole l.var) i)) l.rank (f (ranks_in l.blocks) (cell_in (Whole l.var) i))) f)
