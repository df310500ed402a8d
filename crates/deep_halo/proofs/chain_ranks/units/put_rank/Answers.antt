use Rattle.std.proofs.Common.{◌+◌, List, take, refl, ap, subst, ◌∙◌}
use Rattle.std.proofs.lemmas.List.{take_all, get_or_default}
use Rattle.bound_program.specs.declared.sites.Arg.{Arg}
use Rattle.run_model.specs.Arguments.{no_arg}
use Rattle.run_model.specs.Variables.{of_vars}
use Rattle.deep_halo.specs.Sound.{program_in, ranks_in}
use Rattle.deep_halo.specs.Cells.{BlocksHold}
use Rattle.deep_halo.proofs.chain_memory.chain_stores.Writing.{held_as}
use Rattle.deep_halo.specs.Merging.{changed_by, changed_all}
use Rattle.deep_halo.proofs.chain_ranks.chain_elements.Loops.{arg_fits, args_apart}
use Rattle.deep_halo.proofs.chain_ranks.chain_elements.Changes.{changed_none, changed_more}
use Rattle.deep_halo.specs.Partials.{units}
use Rattle.deep_halo.proofs.chain_ranks.units.put_rank.Goals as goal

pub put_unit-requires-clause-fits : goal.put_unit-requires-clause-fits
put_unit-requires-clause-fits c = arg_fits (program_in c.args.blocks.now) c.args.all.now c.requires.sound.fits c.requires.of c.loop-arg.arg-index _ c.loop-arg-test.true

pub loop-arg-init : goal.loop-arg-init
loop-arg-init c p parts =
    held_as (of_vars (program_in c.args.blocks.now).vars) (ranks_in c.args.blocks.now) c.args.partials.now p
    (changed_all units c.args.rank c.args.all.now.args.now (take 0 c.args.all.now.args.now) p) (λ m x le h. changed_none units (λ z m c. refl) c.args.rank c.args.all.now.args.now p m x) parts

pub loop-arg-preserved : goal.loop-arg-preserved
loop-arg-preserved c p parts =
    let b = program_in c.args.blocks.now in
    let xs = c.args.all.now.args.now in
    let i = c.loop-arg.arg-index in
    let g = changed_all units c.args.rank xs (take i xs) p in
    held_as (of_vars b.vars) (ranks_in c.args.blocks.now) c.put_unit.new.partials _ (changed_all units c.args.rank xs (take (i + 1) xs) p)
    (λ m x le h. ap (λ z. changed_by units c.args.rank z g m x) (get_or_default xs i _ no_arg c.loop-arg-test.true)
    ∙ changed_more units (λ z m c. refl) c.args.rank xs p i (args_apart b c.args.all.now c.requires.sound.fits c.requires.of) c.loop-arg-test.true m x)
    (c.put_unit.ensures g (c.loop-arg.invariant p parts))

pub returns : goal.returns
returns c p parts =
    let xs = c.args.all.now.args.now in
    subst (λ (zs : List Arg). BlocksHold (of_vars (program_in c.args.blocks.now).vars) (ranks_in c.args.blocks.now) c.loop-arg.partials (changed_all units c.args.rank xs zs p))
    (take_all c.loop-arg.arg-index xs c.loop-arg-test.false) (c.loop-arg.invariant p parts)
