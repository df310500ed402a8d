use Rattle.deep_halo.specs.Sound.{program_in}
use Rattle.deep_halo.specs.Cells.{Values, Hold, taken_by_owners, is_earlier}
use Rattle.deep_halo.proofs.chain_memory.chain_stores.starts.start_owners.Given as goal

abbrev pub invariant-loop-dat : goal.invariant-loop-dat
invariant-loop-dat l = (f : Values) → Hold l.blocks l.initial.memory f
    → Hold l.blocks l.memory (taken_by_owners (program_in l.blocks) l.blocks.owners.now (is_earlier l.dat) f)
