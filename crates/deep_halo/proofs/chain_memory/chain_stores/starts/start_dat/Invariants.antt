use Rattle.deep_halo.specs.Sound.{program_in}
use Rattle.deep_halo.specs.Cells.{Values, Hold, taken_by_owners, is_below}
use Rattle.deep_halo.proofs.chain_memory.chain_stores.starts.start_dat.Given as goal

abbrev pub invariant-loop-element : goal.invariant-loop-element
invariant-loop-element l = (f : Values) → Hold l.blocks l.initial.memory f
    → Hold l.blocks l.memory (taken_by_owners (program_in l.blocks) l.blocks.owners.now (is_below l.dat l.element) f)
