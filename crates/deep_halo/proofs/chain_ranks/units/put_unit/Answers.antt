use Rattle.std.proofs.Common.{◌≡◌, Option, Some, sym, ap, subst, ◌∙◌, w32, to_z, of_z}
use Rattle.op_num.specs.Reduction.{Reduction, unit_of}
use Rattle.schedule_model.specs.Machine.{window_of}
use Rattle.rank_state.specs.Windows.{operation}
use Rattle.bound_program.specs.declared.sites.Arg.{Arg}
use Rattle.bound_program.specs.declared.sites.Arg.TheVariants.{Global}
use Rattle.bound_program.specs.Fits.{ArgFits}
use Rattle.run_model.specs.Windows.{Whole, cell_in}
use Rattle.run_model.specs.Variables.{of_vars}
use Rattle.bound_plan.specs.Variables.{reduction_of}
use Rattle.deep_halo.specs.Sound.{program_in, ranks_in}
use Rattle.deep_halo.specs.Cells.{BlocksHold, with_target}
use Rattle.deep_halo.proofs.chain_memory.chain_stores.Writing.{filled}
use Rattle.deep_halo.specs.Globals.{reduction_in}
use Rattle.deep_halo.specs.Merging.{changed_by}
use Rattle.deep_halo.proofs.chain_ranks.chain_elements.Putting.{same_unit}
use Rattle.deep_halo.specs.Partials.{units}
use Rattle.deep_halo.proofs.chain_ranks.units.put_unit.Goals as goal

pub returns-in-Some : goal.returns-in-Some
returns-in-Some c p parts =
    let b = program_in c.args.blocks.now in
    let n = ranks_in c.args.blocks.now in
    let v = c.in-Global.var in
    let fits : ArgFits b c.args.set (Global v c.in-Global.access) = subst (ArgFits b c.args.set) c.in-Global.is c.requires.fits in
    let how : reduction_of c.in-Global.access ≡ Some (operation c.in-Some.how) = sym c.operation_of.ensures ∙ ap reduction_in c.in-Some.is in
    subst (λ (x : Arg). BlocksHold (of_vars b.vars) n c.fill_cells.new.memory (changed_by units c.args.rank x p)) (sym c.in-Global.is)
    (subst (λ (r : Option Reduction). BlocksHold (of_vars b.vars) n c.fill_cells.new.memory (with_target c.args.rank (Whole v) (λ i. window_of r (p c.args.rank (cell_in (Whole v) i))) p)) (sym how)
    (filled (of_vars b.vars) n c.args.rank (Whole v) (unit_of (operation c.in-Some.how)) c.args.partials.now c.fill_cells.new.memory p c.partial_at-at.result c.width_of.result fits.0
    c.fill_cells.auto.memory c.partial_at-at.ensures.is c.width_of.ensures
    (λ i lt. c.fill_cells.ensures.values i lt ∙ ap (λ z. to_z w32 (of_z w32 z)) c.unit.ensures ∙ same_unit (operation c.in-Some.how)) c.fill_cells.ensures.others parts))
