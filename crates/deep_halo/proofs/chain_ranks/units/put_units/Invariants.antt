use Rattle.std.proofs.Common.{◌≡◌, ◌<◌, ℕ, pos, true, Some, get_or}
use Rattle.op_num.specs.Reduction.{Reduction, unit_of}
use Rattle.schedule_model.specs.Cells.{Variable, VarCell}
use Rattle.run_model.specs.Memory.{has_cell}
use Rattle.run_model.specs.Variables.{of_vars}
use Rattle.bound_plan.specs.Variables.{reduces_at}
use Rattle.deep_halo.specs.Places.{in_block}
use Rattle.deep_halo.specs.Sound.{program_in}
use Rattle.deep_halo.proofs.chain_ranks.units.put_units.Given as goal

abbrev pub invariant-loop-rank : goal.invariant-loop-rank
invariant-loop-rank l = (r : ℕ) (v : VarCell) (q : Reduction) → r < l.rank → has_cell (program_in l.blocks) (Variable v) ≡ true → reduces_at (program_in l.blocks) l.all.site v ≡ Some q
    → get_or l.partials (in_block (of_vars (program_in l.blocks).vars) r (Variable v)) (pos 0) ≡ unit_of q
