use Rattle.std.proofs.Common.{take}
use Rattle.deep_halo.specs.Sound.{program_in}
use Rattle.deep_halo.specs.Cells.{Values, Hold, taken}
use Rattle.deep_halo.proofs.chain_memory.chain_stores.lists.copy_pairs.Given as goal

abbrev pub invariant-loop-element : goal.invariant-loop-element
invariant-loop-element l = (f : Values) → Hold l.blocks l.initial.memory f
    → Hold l.blocks l.memory (taken (program_in l.blocks) l.blocks.owners.now l.rank l.dat (take l.element-index l.elements) f)
