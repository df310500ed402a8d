use Rattle.std.proofs.Common.{◌≡◌, ◌+◌, ℕ, List, refl, sym, subst, ◌∙◌, get_or, take}
use Rattle.std.proofs.lemmas.List.{take_all}
use Rattle.deep_halo.specs.Sound.{program_in, ranks_in}
use Rattle.deep_halo.specs.Cells.{Hold, taken}
use Rattle.deep_halo.proofs.chain_memory.chain_stores.Writing.{held_as}
use Rattle.deep_halo.proofs.chain_memory.chain_stores.Listing.{taken_none, taken_more}
use Rattle.deep_halo.proofs.chain_memory.chain_stores.lists.copy_pairs.Goals as goal

pub loop-element-init : goal.loop-element-init
loop-element-init c f holds =
    held_as (program_in c.args.blocks.now) (ranks_in c.args.blocks.now) c.args.memory.now f
    (taken (program_in c.args.blocks.now) c.args.blocks.now.owners.now c.args.rank c.args.dat (take 0 c.args.elements.now) f)
    (λ m x le h. taken_none (program_in c.args.blocks.now) c.args.blocks.now.owners.now c.args.rank c.args.dat f m x) holds

pub loop-element-preserved : goal.loop-element-preserved
loop-element-preserved c f holds =
    let b = program_in c.args.blocks.now in
    let o = c.args.blocks.now.owners.now in
    let ys = c.args.elements.now in
    let i = c.loop-element.element-index in
    let g = taken b o c.args.rank c.args.dat (take i ys) f in
    held_as b (ranks_in c.args.blocks.now) c.copy_pair.new.memory _ (taken b o c.args.rank c.args.dat (take (i + 1) ys) f)
    (λ m x le h. taken_more b o c.args.rank c.args.dat ys i (get_or ys i 0) c.owner_of-from.result f c.loop-element-test.true refl c.owner_of-from.ensures.is
    (λ q. c.requires.others i c.loop-element-test.true (sym c.owner_of-from.ensures.is ∙ q)) m x)
    (c.copy_pair.ensures g (c.loop-element.invariant f holds))

pub returns : goal.returns
returns c f holds =
    let ys = c.args.elements.now in
    let all : take c.loop-element.element-index ys ≡ ys = take_all c.loop-element.element-index ys c.loop-element-test.false in
    subst (λ (zs : List ℕ). Hold c.args.blocks.now c.loop-element.memory (taken (program_in c.args.blocks.now) c.args.blocks.now.owners.now c.args.rank c.args.dat zs f)) all
    (c.loop-element.invariant f holds)
