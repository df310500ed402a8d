use Rattle.std.proofs.Common.{take}
use Rattle.run_model.specs.Variables.{of_vars}
use Rattle.deep_halo.specs.Sound.{program_in, ranks_in}
use Rattle.deep_halo.specs.Cells.{Values, BlocksHold}
use Rattle.deep_halo.specs.Merging.{changed_all}
use Rattle.deep_halo.specs.Partials.{units}
use Rattle.deep_halo.proofs.chain_ranks.units.put_rank.Given as goal

abbrev pub invariant-loop-arg : goal.invariant-loop-arg
invariant-loop-arg l = (p : Values) → BlocksHold (of_vars (program_in l.blocks).vars) (ranks_in l.blocks) l.initial.partials p
    → BlocksHold (of_vars (program_in l.blocks).vars) (ranks_in l.blocks) l.partials (changed_all units l.rank l.all.args.now (take l.arg-index l.all.args.now) p)
