use Rattle.std.proofs.Common.{◌&&◌, nat_lt}
use Rattle.deep_halo.specs.Sound.{program_in, ranks_in}
use Rattle.deep_halo.specs.Cells.{Values, Hold}
use Rattle.deep_halo.specs.Exchanged.{exchanged_where}
use Rattle.deep_halo.proofs.chain_ranks.chain_exchange.exchanges.exchange_copies.Given as goal

abbrev pub invariant-loop-dat : goal.invariant-loop-dat
invariant-loop-dat l = (f : Values) → Hold l.blocks l.initial.memory f
    → Hold l.blocks l.memory (exchanged_where (program_in l.blocks) l.blocks.owners.now l.item l.what (λ r d. nat_lt r (ranks_in l.blocks) && nat_lt d l.dat) f)
