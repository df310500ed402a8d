use Rattle.std.proofs.Common.{◌≡◌, ◌+◌, ℕ, List, refl, subst, get_or, take}
use Rattle.std.proofs.lemmas.List.{take_all}
use Rattle.deep_halo.specs.Sound.{program_in, ranks_in}
use Rattle.deep_halo.specs.Cells.{Hold, cleared}
use Rattle.deep_halo.proofs.chain_memory.chain_stores.Writing.{held_as}
use Rattle.deep_halo.proofs.chain_memory.chain_stores.Listing.{cleared_none, cleared_more}
use Rattle.deep_halo.proofs.chain_memory.chain_stores.lists.clear_pairs.Goals as goal

pub loop-element-init : goal.loop-element-init
loop-element-init c f holds =
    held_as (program_in c.args.blocks.now) (ranks_in c.args.blocks.now) c.args.memory.now f (cleared c.args.rank c.args.dat (take 0 c.args.elements.now) f)
    (λ m x le h. cleared_none c.args.rank c.args.dat f m x) holds

pub loop-element-preserved : goal.loop-element-preserved
loop-element-preserved c f holds =
    let ys = c.args.elements.now in
    let i = c.loop-element.element-index in
    let g = cleared c.args.rank c.args.dat (take i ys) f in
    held_as (program_in c.args.blocks.now) (ranks_in c.args.blocks.now) c.clear_pair.new.memory _ (cleared c.args.rank c.args.dat (take (i + 1) ys) f)
    (λ m x le h. cleared_more c.args.rank c.args.dat ys i (get_or ys i 0) f c.loop-element-test.true refl m x)
    (c.clear_pair.ensures g (c.loop-element.invariant f holds))

pub returns : goal.returns
returns c f holds =
    let ys = c.args.elements.now in
    let all : take c.loop-element.element-index ys ≡ ys = take_all c.loop-element.element-index ys c.loop-element-test.false in
    subst (λ (zs : List ℕ). Hold c.args.blocks.now c.loop-element.memory (cleared c.args.rank c.args.dat zs f)) all (c.loop-element.invariant f holds)
