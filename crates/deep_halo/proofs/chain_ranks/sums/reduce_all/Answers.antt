use Rattle.std.proofs.Common.{◌+◌, List, take, ap, subst, ◌∙◌}
use Rattle.std.proofs.lemmas.List.{take_all, get_or_default}
use Rattle.bound_program.specs.declared.sites.Arg.{Arg}
use Rattle.run_model.specs.Arguments.{no_arg}
use Rattle.deep_halo.specs.Sound.{program_in, ranks_in}
use Rattle.deep_halo.specs.Cells.{Hold}
use Rattle.deep_halo.proofs.chain_memory.chain_stores.Writing.{held_as}
use Rattle.deep_halo.specs.Merging.{changed_by, changed_all}
use Rattle.deep_halo.proofs.chain_ranks.chain_elements.Loops.{arg_fits, args_apart}
use Rattle.deep_halo.proofs.chain_ranks.chain_elements.Changes.{changed_none, changed_more}
use Rattle.deep_halo.specs.Partials.{sums_of}
use Rattle.deep_halo.proofs.chain_ranks.Summing.{merged_plain}
use Rattle.deep_halo.proofs.chain_ranks.sums.reduce_all.Goals as goal

pub reduce_arg-requires-clause-fits : goal.reduce_arg-requires-clause-fits
reduce_arg-requires-clause-fits c = arg_fits (program_in c.args.blocks.now) c.args.all.now c.requires.sound.fits c.requires.of c.loop-arg.arg-index _ c.loop-arg-test.true

pub loop-arg-init : goal.loop-arg-init
loop-arg-init c f p holds parts =
    let n = ranks_in c.args.blocks.now in
    held_as (program_in c.args.blocks.now) n c.args.memory.now f (changed_all (sums_of n p) n c.args.all.now.args.now (take 0 c.args.all.now.args.now) f)
    (λ m x le h. changed_none (sums_of n p) (λ z m c. merged_plain (λ r. p r c) n z) n c.args.all.now.args.now f m x) holds

pub loop-arg-preserved : goal.loop-arg-preserved
loop-arg-preserved c f p holds parts =
    let b = program_in c.args.blocks.now in
    let n = ranks_in c.args.blocks.now in
    let xs = c.args.all.now.args.now in
    let i = c.loop-arg.arg-index in
    let g = changed_all (sums_of n p) n xs (take i xs) f in
    held_as b n c.reduce_arg.new.memory _ (changed_all (sums_of n p) n xs (take (i + 1) xs) f)
    (λ m x le h. ap (λ z. changed_by (sums_of n p) n z g m x) (get_or_default xs i _ no_arg c.loop-arg-test.true)
    ∙ changed_more (sums_of n p) (λ z m c. merged_plain (λ r. p r c) n z) n xs f i (args_apart b c.args.all.now c.requires.sound.fits c.requires.of) c.loop-arg-test.true m x)
    (c.reduce_arg.ensures g p (c.loop-arg.invariant f p holds parts) parts)

pub returns : goal.returns
returns c f p holds parts =
    let n = ranks_in c.args.blocks.now in
    let xs = c.args.all.now.args.now in
    subst (λ (zs : List Arg). Hold c.args.blocks.now c.loop-arg.memory (changed_all (sums_of n p) n xs zs f))
    (take_all c.loop-arg.arg-index xs c.loop-arg-test.false) (c.loop-arg.invariant f p holds parts)
