use Rattle.std.proofs.Common.{◌≡◌, Some, sym, ap, subst, ◌∙◌}
use Rattle.rank_state.specs.Windows.{operation}
use Rattle.bound_program.specs.declared.sites.Arg.{Arg}
use Rattle.bound_program.specs.declared.sites.Arg.TheVariants.{Global}
use Rattle.bound_program.specs.Fits.{ArgFits}
use Rattle.run_model.specs.Variables.{of_vars}
use Rattle.bound_plan.specs.Variables.{reduction_of}
use Rattle.deep_halo.specs.Sound.{program_in, ranks_in}
use Rattle.deep_halo.specs.Cells.{BlocksHold}
use Rattle.deep_halo.specs.Globals.{reduction_in}
use Rattle.deep_halo.specs.Merging.{merged_by}
use Rattle.deep_halo.proofs.chain_ranks.chain_elements.Partials.{amounts_merged}
use Rattle.deep_halo.proofs.chain_ranks.chain_elements.merging.merge_arg.Goals as goal

pub returns-in-Some : goal.returns-in-Some
returns-in-Some c f p holds parts =
    let b = program_in c.args.blocks.now in
    let fits : ArgFits b c.args.set (Global c.in-Global.var c.in-Global.access) = subst (ArgFits b c.args.set) c.in-Global.is c.requires.fits in
    let how : reduction_of c.in-Global.access ≡ Some (operation c.in-Some.how) = sym c.operation_of.ensures ∙ ap reduction_in c.in-Some.is in
    subst (λ (x : Arg). BlocksHold (of_vars b.vars) (ranks_in c.args.blocks.now) c.merge_cells.new.partials (merged_by c.args.rank f x p)) (sym c.in-Global.is)
    (amounts_merged b (ranks_in c.args.blocks.now) c.args.rank c.in-Global.var c.in-Global.access (operation c.in-Some.how) c.args.partials.now c.merge_cells.new.partials c.args.memory.now f p
    c.partial_at-at.result c.variable_at-from.result c.width_of.result c.requires.rank fits.0 how holds parts c.merge_cells.auto.partials
    c.partial_at-at.ensures.is c.variable_at-from.ensures.is c.width_of.ensures c.merge_cells.ensures.merged c.merge_cells.ensures.others)
