use Rattle.std.proofs.Common.{take}
use Rattle.deep_halo.specs.Sound.{ranks_in}
use Rattle.deep_halo.specs.Cells.{Values, Hold}
use Rattle.deep_halo.specs.Globals.{with_globals}
use Rattle.deep_halo.proofs.chain_ranks.chain_elements.globals.put_globals.Given as goal

abbrev pub invariant-loop-arg : goal.invariant-loop-arg
invariant-loop-arg l = (f : Values) → Hold l.blocks l.initial.memory f
    → Hold l.blocks l.memory (with_globals (ranks_in l.blocks) l.rank l.all.args.now (take l.arg-index l.all.args.now) f)
