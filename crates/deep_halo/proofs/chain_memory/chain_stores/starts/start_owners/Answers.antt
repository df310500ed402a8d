use Rattle.std.proofs.Common.{◌≡◌, ◌+◌, subst, arith}
use Rattle.mesh_decl.specs.Mesh.{dat_count}
use Rattle.deep_halo.specs.Sound.{program_in}
use Rattle.deep_halo.specs.Cells.{Hold, taken_by_owners, is_earlier}
use Rattle.deep_halo.proofs.chain_memory.chain_stores.Writing.{held_as}
use Rattle.deep_halo.proofs.chain_memory.chain_stores.Starting.{dats_none, dats_more}
use Rattle.deep_halo.proofs.chain_memory.chain_stores.starts.start_owners.Goals as goal

pub loop-dat-init : goal.loop-dat-init
loop-dat-init c f holds =
    let b = program_in c.args.blocks.now in
    let o = c.args.blocks.now.owners.now in
    held_as b o.ranks c.args.memory.now f (taken_by_owners b o (is_earlier 0) f) (λ m x le h. dats_none b o f m x) holds

pub loop-dat-preserved : goal.loop-dat-preserved
loop-dat-preserved c f holds =
    let b = program_in c.args.blocks.now in
    let o = c.args.blocks.now.owners.now in
    let g = taken_by_owners b o (is_earlier c.loop-dat.dat) f in
    held_as b o.ranks c.start_dat.new.memory _ (taken_by_owners b o (is_earlier (c.loop-dat.dat + 1)) f)
    (λ m x le h. dats_more b o c.is_in_range.ensures c.requires.sound.owners c.loop-dat.dat f m x h)
    (c.start_dat.ensures g (c.loop-dat.invariant f holds))

pub returns : goal.returns
returns c f holds =
    let b = program_in c.args.blocks.now in
    let o = c.args.blocks.now.owners.now in
    let last : c.loop-dat.dat ≡ dat_count b.mesh = omega (arith, c.dat_count-dat-end.ensures.count, c.loop-dat-test.false, c.loop-dat.auto.dat-end) in
    subst (λ n. Hold c.args.blocks.now c.loop-dat.memory (taken_by_owners b o (is_earlier n) f)) last (c.loop-dat.invariant f holds)
