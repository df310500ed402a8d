use Rattle.std.proofs.Common.{◌≡◌, ◌+◌, ◌&&◌, nat_eq, nat_lt, subst, arith}
use Rattle.deep_halo.specs.Sound.{program_in}
use Rattle.deep_halo.specs.Cells.{Hold}
use Rattle.deep_halo.proofs.chain_memory.chain_stores.Writing.{held_as}
use Rattle.deep_halo.specs.Exchanged.{exchanged_where}
use Rattle.deep_halo.proofs.chain_ranks.chain_exchange.Exchanging.{ranks_none, ranks_more}
use Rattle.deep_halo.proofs.chain_ranks.chain_exchange.exchanges.exchange_dat.Goals as goal

pub loop-rank-init : goal.loop-rank-init
loop-rank-init c f holds =
    let b = program_in c.args.blocks.now in
    let o = c.args.blocks.now.owners.now in
    held_as b o.ranks c.args.memory.now f (exchanged_where b o c.args.item c.args.what (λ r d. nat_lt r 0 && nat_eq d c.args.dat) f)
    (λ m x le h. ranks_none b o c.args.item c.args.what c.args.dat f m x) holds

pub loop-rank-preserved : goal.loop-rank-preserved
loop-rank-preserved c f holds =
    let b = program_in c.args.blocks.now in
    let o = c.args.blocks.now.owners.now in
    let g = exchanged_where b o c.args.item c.args.what (λ r d. nat_lt r c.loop-rank.rank && nat_eq d c.args.dat) f in
    held_as b o.ranks c.exchange_rank.new.memory _ (exchanged_where b o c.args.item c.args.what (λ r d. nat_lt r (c.loop-rank.rank + 1) && nat_eq d c.args.dat) f)
    (λ m x le h. ranks_more b o c.args.item c.args.what c.loop-rank.rank c.args.dat f m x h)
    (c.exchange_rank.ensures g (c.loop-rank.invariant f holds))

pub returns : goal.returns
returns c f holds =
    let b = program_in c.args.blocks.now in
    let o = c.args.blocks.now.owners.now in
    let last : c.loop-rank.rank ≡ o.ranks = omega (arith, c.loop-rank-test.false, c.loop-rank.auto.rank-end) in
    subst (λ n. Hold c.args.blocks.now c.loop-rank.memory (exchanged_where b o c.args.item c.args.what (λ r d. nat_lt r n && nat_eq d c.args.dat) f)) last (c.loop-rank.invariant f holds)
