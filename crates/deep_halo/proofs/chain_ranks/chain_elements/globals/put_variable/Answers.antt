use Rattle.std.proofs.Common.{◌≡◌, ℤ, Option, None, Some, sym, ap, subst, ◌∙◌, w32, to_z, of_z}
use Rattle.op_num.specs.Reduction.{Reduction}
use Rattle.schedule_model.specs.Machine.{window_of}
use Rattle.rank_state.specs.Windows.{operation}
use Rattle.run_model.specs.Windows.{Whole, cell_in}
use Rattle.bound_plan.specs.Variables.{reduction_of}
use Rattle.deep_halo.specs.Sound.{ranks_in}
use Rattle.deep_halo.specs.Cells.{Hold, with_target}
use Rattle.deep_halo.specs.Globals.{reduction_in}
use Rattle.deep_halo.proofs.chain_ranks.chain_elements.Putting.{same_unit}
use Rattle.deep_halo.proofs.chain_ranks.chain_elements.globals.put_variable.Goals as goal

pub returns-in-Some : goal.returns-in-Some
returns-in-Some c f holds =
    let how : reduction_of c.args.access ≡ Some (operation c.in-Some.how) = sym c.operation_of.ensures ∙ ap reduction_in c.in-Some.is in
    subst (λ (r : Option Reduction). Hold c.args.blocks.now c.fill_variable.new.memory
    (with_target c.args.rank (Whole c.args.var) (λ i. window_of r (f (ranks_in c.args.blocks.now) (cell_in (Whole c.args.var) i))) f)) (sym how)
    (subst (λ (z : ℤ). Hold c.args.blocks.now c.fill_variable.new.memory (with_target c.args.rank (Whole c.args.var) (λ i. z) f))
    (ap (λ z. to_z w32 (of_z w32 z)) c.unit.ensures ∙ same_unit (operation c.in-Some.how)) (c.fill_variable.ensures f holds))

pub returns-in-None : goal.returns-in-None
returns-in-None c f holds =
    let how : reduction_of c.args.access ≡ None = sym c.operation_of.ensures ∙ ap reduction_in c.in-None.is in
    subst (λ (r : Option Reduction). Hold c.args.blocks.now c.copy_variable.new.memory
    (with_target c.args.rank (Whole c.args.var) (λ i. window_of r (f (ranks_in c.args.blocks.now) (cell_in (Whole c.args.var) i))) f)) (sym how)
    (c.copy_variable.ensures f holds)
