use Rattle.std.proofs.Common.{◌≡◌, ◌+◌, ℕ, subst, ap, ◌∙◌, arith}
use Rattle.mesh_decl.specs.Mesh.{dat_set, set_size}
use Rattle.deep_halo.specs.Sound.{program_in}
use Rattle.deep_halo.specs.Cells.{Hold, taken_by_owners, is_below}
use Rattle.deep_halo.proofs.chain_memory.chain_stores.Writing.{held_as}
use Rattle.deep_halo.proofs.chain_memory.chain_stores.Starting.{elements_none, elements_more}
use Rattle.deep_halo.proofs.chain_memory.chain_stores.starts.start_dat.Goals as goal

pub loop-element-init : goal.loop-element-init
loop-element-init c f holds =
    let b = program_in c.args.blocks.now in
    let o = c.args.blocks.now.owners.now in
    held_as b o.ranks c.args.memory.now f (taken_by_owners b o (is_below c.args.dat 0) f) (λ m x le h. elements_none b o c.args.dat f m x) holds

pub loop-element-preserved : goal.loop-element-preserved
loop-element-preserved c f holds =
    let b = program_in c.args.blocks.now in
    let o = c.args.blocks.now.owners.now in
    let g = taken_by_owners b o (is_below c.args.dat c.loop-element.element) f in
    held_as b o.ranks c.copy_pair.new.memory _ (taken_by_owners b o (is_below c.args.dat (c.loop-element.element + 1)) f)
    (λ m x le h. elements_more b o c.args.dat c.loop-element.element c.owner_of-to.result f c.owner_of-to.ensures.is c.owner_of-to.ensures.below m x)
    (c.copy_pair.ensures g (c.loop-element.invariant f holds))

pub returns : goal.returns
returns c f holds =
    let b = program_in c.args.blocks.now in
    let o = c.args.blocks.now.owners.now in
    let set : c.dat_shape-set.result.0 ≡ dat_set b.mesh c.args.dat = ap (λ (p : ℕ × ℕ). p.0) c.dat_shape-set.ensures in
    let size : c.set_size-element-end.result ≡ set_size b.mesh (dat_set b.mesh c.args.dat) = c.set_size-element-end.ensures ∙ ap (set_size b.mesh) set in
    let last : c.loop-element.element ≡ set_size b.mesh (dat_set b.mesh c.args.dat) = omega (arith, size, c.loop-element-test.false, c.loop-element.auto.element-end) in
    subst (λ n. Hold c.args.blocks.now c.loop-element.memory (taken_by_owners b o (is_below c.args.dat n) f)) last (c.loop-element.invariant f holds)
