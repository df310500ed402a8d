use Rattle.std.proofs.Common.{◌+◌, List, take, ap, subst, ◌∙◌}
use Rattle.std.proofs.lemmas.List.{take_all, get_or_default}
use Rattle.bound_program.specs.declared.sites.Arg.{Arg}
use Rattle.run_model.specs.Arguments.{no_arg}
use Rattle.run_model.specs.Variables.{of_vars}
use Rattle.deep_halo.specs.Sound.{program_in, ranks_in}
use Rattle.deep_halo.specs.Cells.{BlocksHold}
use Rattle.deep_halo.proofs.chain_memory.chain_stores.Writing.{held_as}
use Rattle.deep_halo.specs.Merging.{merged_by, merged_all}
use Rattle.deep_halo.proofs.chain_ranks.chain_elements.Loops.{arg_fits, args_apart}
use Rattle.deep_halo.proofs.chain_ranks.chain_elements.Merges.{merged_none, merged_more}
use Rattle.deep_halo.proofs.chain_ranks.chain_elements.merging.merge_globals.Goals as goal

pub merge_arg-requires-clause-fits : goal.merge_arg-requires-clause-fits
merge_arg-requires-clause-fits c = arg_fits (program_in c.args.blocks.now) c.args.all.now c.requires.sound.fits c.requires.of c.loop-arg.arg-index _ c.loop-arg-test.true

pub loop-arg-init : goal.loop-arg-init
loop-arg-init c f p holds parts =
    held_as (of_vars (program_in c.args.blocks.now).vars) (ranks_in c.args.blocks.now) c.args.partials.now p
    (merged_all c.args.rank c.args.all.now.args.now (take 0 c.args.all.now.args.now) f p) (λ m x le h. merged_none c.args.rank c.args.all.now.args.now f p m x) parts

pub loop-arg-preserved : goal.loop-arg-preserved
loop-arg-preserved c f p holds parts =
    let b = program_in c.args.blocks.now in
    let xs = c.args.all.now.args.now in
    let i = c.loop-arg.arg-index in
    let g = merged_all c.args.rank xs (take i xs) f p in
    held_as (of_vars b.vars) (ranks_in c.args.blocks.now) c.merge_arg.new.partials _ (merged_all c.args.rank xs (take (i + 1) xs) f p)
    (λ m x le h. ap (λ z. merged_by c.args.rank f z g m x) (get_or_default xs i _ no_arg c.loop-arg-test.true)
    ∙ merged_more c.args.rank xs f p i (args_apart b c.args.all.now c.requires.sound.fits c.requires.of) c.loop-arg-test.true m x)
    (c.merge_arg.ensures f g holds (c.loop-arg.invariant f p holds parts))

pub returns : goal.returns
returns c f p holds parts =
    let xs = c.args.all.now.args.now in
    subst (λ (zs : List Arg). BlocksHold (of_vars (program_in c.args.blocks.now).vars) (ranks_in c.args.blocks.now) c.loop-arg.partials (merged_all c.args.rank xs zs f p))
    (take_all c.loop-arg.arg-index xs c.loop-arg-test.false) (c.loop-arg.invariant f p holds parts)
