use Rattle.std.proofs.Common.{◌+◌, List, take, ap, subst, ◌∙◌}
use Rattle.std.proofs.lemmas.List.{take_all, get_or_default}
use Rattle.bound_program.specs.declared.sites.Arg.{Arg}
use Rattle.run_model.specs.Arguments.{no_arg}
use Rattle.deep_halo.specs.Sound.{program_in}
use Rattle.deep_halo.specs.Cells.{Hold}
use Rattle.deep_halo.proofs.chain_memory.chain_stores.Writing.{held_as}
use Rattle.deep_halo.specs.Dropping.{dropped, dropped_by}
use Rattle.deep_halo.proofs.chain_ranks.chain_elements.Loops.{arg_fits}
use Rattle.deep_halo.proofs.chain_ranks.chain_elements.Drops.{dropped_none, dropped_more}
use Rattle.deep_halo.proofs.chain_ranks.chain_elements.dropping.drop_unheld.Goals as goal

pub drop_arg-requires-clause-fits : goal.drop_arg-requires-clause-fits
drop_arg-requires-clause-fits c = arg_fits (program_in c.args.blocks.now) c.args.all.now c.requires.sound.fits c.requires.of c.loop-arg.arg-index _ c.loop-arg-test.true

pub loop-arg-init : goal.loop-arg-init
loop-arg-init c f holds =
    let b = program_in c.args.blocks.now in
    let o = c.args.blocks.now.owners.now in
    held_as b o.ranks c.args.memory.now f (dropped b o c.args.begun c.args.rank c.args.element (take 0 c.args.all.now.args.now) f)
    (λ m x le h. dropped_none b o c.args.begun c.args.rank c.args.element f m x) holds

pub loop-arg-preserved : goal.loop-arg-preserved
loop-arg-preserved c f holds =
    let b = program_in c.args.blocks.now in
    let o = c.args.blocks.now.owners.now in
    let xs = c.args.all.now.args.now in
    let i = c.loop-arg.arg-index in
    let g = dropped b o c.args.begun c.args.rank c.args.element (take i xs) f in
    held_as b o.ranks c.drop_arg.new.memory _ (dropped b o c.args.begun c.args.rank c.args.element (take (i + 1) xs) f)
    (λ m x le h. ap (λ z. dropped_by b o c.args.begun c.args.rank c.args.element z g m x) (get_or_default xs i _ no_arg c.loop-arg-test.true)
    ∙ dropped_more b o c.args.begun c.args.rank c.args.element xs i f c.loop-arg-test.true m x)
    (c.drop_arg.ensures g (c.loop-arg.invariant f holds))

pub returns : goal.returns
returns c f holds =
    let xs = c.args.all.now.args.now in
    subst (λ (zs : List Arg). Hold c.args.blocks.now c.loop-arg.memory (dropped (program_in c.args.blocks.now) c.args.blocks.now.owners.now c.args.begun c.args.rank c.args.element zs f))
    (take_all c.loop-arg.arg-index xs c.loop-arg-test.false) (c.loop-arg.invariant f holds)
