use Rattle.std.proofs.Common.{◌≡◌, ◌≢◌, ◌+◌, List, take, ap, subst, ◌∙◌, arith}
use Rattle.std.proofs.lemmas.List.{take_all, get_or_default}
use Rattle.bound_program.specs.declared.sites.Arg.{Arg}
use Rattle.run_model.specs.Arguments.{no_arg}
use Rattle.deep_halo.specs.Sound.{program_in, ranks_in}
use Rattle.deep_halo.specs.Cells.{Hold}
use Rattle.deep_halo.proofs.chain_memory.chain_stores.Writing.{held_as}
use Rattle.deep_halo.specs.Globals.{with_global, with_globals}
use Rattle.deep_halo.proofs.chain_ranks.chain_elements.Loops.{arg_fits, args_apart}
use Rattle.deep_halo.proofs.chain_ranks.chain_elements.Putting.{globals_none, globals_more}
use Rattle.deep_halo.proofs.chain_ranks.chain_elements.globals.put_globals.Goals as goal

pub put_global-requires-clause-fits : goal.put_global-requires-clause-fits
put_global-requires-clause-fits c = arg_fits (program_in c.args.blocks.now) c.args.all.now c.requires.sound.fits c.requires.of c.loop-arg.arg-index _ c.loop-arg-test.true

pub loop-arg-init : goal.loop-arg-init
loop-arg-init c f holds =
    held_as (program_in c.args.blocks.now) (ranks_in c.args.blocks.now) c.args.memory.now f
    (with_globals (ranks_in c.args.blocks.now) c.args.rank c.args.all.now.args.now (take 0 c.args.all.now.args.now) f)
    (λ m x le h. globals_none (ranks_in c.args.blocks.now) c.args.rank c.args.all.now.args.now f m x) holds

pub loop-arg-preserved : goal.loop-arg-preserved
loop-arg-preserved c f holds =
    let b = program_in c.args.blocks.now in
    let ranks = ranks_in c.args.blocks.now in
    let xs = c.args.all.now.args.now in
    let i = c.loop-arg.arg-index in
    let g = with_globals ranks c.args.rank xs (take i xs) f in
    let other : c.args.rank ≢ ranks = λ (q : c.args.rank ≡ ranks). omega (arith, q, c.requires.rank) in
    held_as b ranks c.put_global.new.memory _ (with_globals ranks c.args.rank xs (take (i + 1) xs) f)
    (λ m x le h. ap (λ z. with_global ranks c.args.rank z g m x) (get_or_default xs i _ no_arg c.loop-arg-test.true)
    ∙ globals_more ranks c.args.rank xs f i other (args_apart b c.args.all.now c.requires.sound.fits c.requires.of) c.loop-arg-test.true m x)
    (c.put_global.ensures g (c.loop-arg.invariant f holds))

pub returns : goal.returns
returns c f holds =
    let xs = c.args.all.now.args.now in
    subst (λ (zs : List Arg). Hold c.args.blocks.now c.loop-arg.memory (with_globals (ranks_in c.args.blocks.now) c.args.rank xs zs f))
    (take_all c.loop-arg.arg-index xs c.loop-arg-test.false) (c.loop-arg.invariant f holds)
