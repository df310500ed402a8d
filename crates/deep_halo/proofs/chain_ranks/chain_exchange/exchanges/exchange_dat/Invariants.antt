use Rattle.std.proofs.Common.{◌&&◌, nat_eq, nat_lt}
use Rattle.deep_halo.specs.Sound.{program_in}
use Rattle.deep_halo.specs.Cells.{Values, Hold}
use Rattle.deep_halo.specs.Exchanged.{exchanged_where}
use Rattle.deep_halo.proofs.chain_ranks.chain_exchange.exchanges.exchange_dat.Given as goal

abbrev pub invariant-loop-rank : goal.invariant-loop-rank
invariant-loop-rank l = (f : Values) → Hold l.blocks l.initial.memory f
    → Hold l.blocks l.memory (exchanged_where (program_in l.blocks) l.blocks.owners.now l.item l.what (λ r d. nat_lt r l.rank && nat_eq d l.dat) f)
