use Rattle.std.proofs.Common.{take}
use Rattle.run_model.specs.Variables.{of_vars}
use Rattle.deep_halo.specs.Sound.{program_in, ranks_in}
use Rattle.deep_halo.specs.Cells.{Values, BlocksHold, Hold}
use Rattle.deep_halo.specs.Merging.{changed_all}
use Rattle.deep_halo.specs.Partials.{sums_of}
use Rattle.deep_halo.proofs.chain_ranks.sums.reduce_all.Given as goal

abbrev pub invariant-loop-arg : goal.invariant-loop-arg
invariant-loop-arg l = (f p : Values) → Hold l.blocks l.initial.memory f → BlocksHold (of_vars (program_in l.blocks).vars) (ranks_in l.blocks) l.partials p
    → Hold l.blocks l.memory (changed_all (sums_of (ranks_in l.blocks) p) (ranks_in l.blocks) l.all.args.now (take l.arg-index l.all.args.now) f)
