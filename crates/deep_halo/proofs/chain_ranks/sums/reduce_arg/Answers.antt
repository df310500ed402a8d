use Rattle.std.proofs.Common.{◌≡◌, Option, Some, None, sym, ap, subst, ◌∙◌}
use Rattle.op_num.specs.Reduction.{Reduction}
use Rattle.rank_state.specs.Windows.{operation}
use Rattle.bound_program.specs.declared.sites.Arg.{Arg}
use Rattle.bound_program.specs.declared.sites.Arg.TheVariants.{Global}
use Rattle.run_model.specs.Windows.{Whole, cell_in}
use Rattle.bound_plan.specs.Variables.{reduction_of}
use Rattle.chain_model.specs.Machine.{merged_over}
use Rattle.deep_halo.specs.Sound.{program_in, ranks_in}
use Rattle.deep_halo.specs.Cells.{Hold, with_target}
use Rattle.deep_halo.proofs.chain_memory.chain_stores.Writing.{held_as}
use Rattle.deep_halo.specs.Globals.{reduction_in}
use Rattle.deep_halo.specs.Merging.{changed_by}
use Rattle.deep_halo.proofs.chain_ranks.chain_elements.Changes.{unchanged}
use Rattle.deep_halo.specs.Partials.{sums_of}
use Rattle.deep_halo.proofs.chain_ranks.Summing.{merged_plain}
use Rattle.deep_halo.proofs.chain_ranks.sums.reduce_arg.Goals as goal

pub returns-in-Some : goal.returns-in-Some
returns-in-Some c f p holds parts =
    let n = ranks_in c.args.blocks.now in
    let v = c.in-Global.var in
    let how : reduction_of c.in-Global.access ≡ Some (operation c.in-Some.how) = sym c.operation_of.ensures ∙ ap reduction_in c.in-Some.is in
    subst (λ (x : Arg). Hold c.args.blocks.now c.reduce_variable.new.memory (changed_by (sums_of n p) n x f)) (sym c.in-Global.is)
    (subst (λ (r : Option Reduction). Hold c.args.blocks.now c.reduce_variable.new.memory
    (with_target n (Whole v) (λ i. merged_over r (λ q. p q (cell_in (Whole v) i)) n (f n (cell_in (Whole v) i))) f)) (sym how)
    (c.reduce_variable.ensures f p holds parts))

pub returns-in_default-operation_of : goal.returns-in_default-operation_of
returns-in_default-operation_of c f p holds parts =
    let b = program_in c.args.blocks.now in
    let n = ranks_in c.args.blocks.now in
    let how : reduction_of c.in-Global.access ≡ None = sym c.operation_of.ensures ∙ ap reduction_in c.in_default-operation_of.is in
    subst (λ (x : Arg). Hold c.args.blocks.now c.args.memory.now (changed_by (sums_of n p) n x f)) (sym c.in-Global.is)
    (held_as b n c.args.memory.now f (changed_by (sums_of n p) n (Global c.in-Global.var c.in-Global.access) f)
    (λ m x le h. unchanged (sums_of n p) (λ z m c. merged_plain (λ r. p r c) n z) n c.in-Global.var c.in-Global.access f how m x) holds)
