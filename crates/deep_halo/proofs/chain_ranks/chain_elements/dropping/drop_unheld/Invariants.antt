use Rattle.std.proofs.Common.{take}
use Rattle.deep_halo.specs.Sound.{program_in}
use Rattle.deep_halo.specs.Cells.{Values, Hold}
use Rattle.deep_halo.specs.Dropping.{dropped}
use Rattle.deep_halo.proofs.chain_ranks.chain_elements.dropping.drop_unheld.Given as goal

abbrev pub invariant-loop-arg : goal.invariant-loop-arg
invariant-loop-arg l = (f : Values) → Hold l.blocks l.initial.memory f
    → Hold l.blocks l.memory (dropped (program_in l.blocks) l.blocks.owners.now l.begun l.rank l.element (take l.arg-index l.all.args.now) f)
