use Rattle.std.proofs.Common.{◌≡◌, ◌+◌, ◌&&◌, nat_lt, subst, arith}
use Rattle.mesh_decl.specs.Mesh.{dat_count}
use Rattle.deep_halo.specs.Sound.{program_in}
use Rattle.deep_halo.specs.Cells.{Hold}
use Rattle.deep_halo.proofs.chain_memory.chain_stores.Writing.{held_as}
use Rattle.deep_halo.specs.Exchanged.{exchanged_where, exchanged_all}
use Rattle.deep_halo.proofs.chain_ranks.chain_exchange.Exchanging.{dats_none, dats_more, all_dats}
use Rattle.deep_halo.proofs.chain_ranks.chain_exchange.exchanges.exchange_copies.Goals as goal

pub loop-dat-init : goal.loop-dat-init
loop-dat-init c f holds =
    let b = program_in c.args.blocks.now in
    let o = c.args.blocks.now.owners.now in
    held_as b o.ranks c.args.memory.now f (exchanged_where b o c.args.item c.args.what (λ r d. nat_lt r o.ranks && nat_lt d 0) f)
    (λ m x le h. dats_none b o c.args.item c.args.what o.ranks f m x) holds

pub loop-dat-preserved : goal.loop-dat-preserved
loop-dat-preserved c f holds =
    let b = program_in c.args.blocks.now in
    let o = c.args.blocks.now.owners.now in
    let g = exchanged_where b o c.args.item c.args.what (λ r d. nat_lt r o.ranks && nat_lt d c.loop-dat.dat) f in
    held_as b o.ranks c.exchange_dat.new.memory _ (exchanged_where b o c.args.item c.args.what (λ r d. nat_lt r o.ranks && nat_lt d (c.loop-dat.dat + 1)) f)
    (λ m x le h. dats_more b o c.args.item c.args.what o.ranks c.loop-dat.dat f m x h)
    (c.exchange_dat.ensures g (c.loop-dat.invariant f holds))

pub returns : goal.returns
returns c f holds =
    let b = program_in c.args.blocks.now in
    let o = c.args.blocks.now.owners.now in
    let last : c.loop-dat.dat ≡ dat_count b.mesh = omega (arith, c.dat_count-dat-end.ensures.count, c.loop-dat-test.false, c.loop-dat.auto.dat-end) in
    held_as b o.ranks c.loop-dat.memory _ (exchanged_all b o c.args.item c.args.what f) (λ m x le h. all_dats b o c.args.item c.args.what f m x h)
    (subst (λ n. Hold c.args.blocks.now c.loop-dat.memory (exchanged_where b o c.args.item c.args.what (λ r d. nat_lt r o.ranks && nat_lt d n) f)) last (c.loop-dat.invariant f holds))
