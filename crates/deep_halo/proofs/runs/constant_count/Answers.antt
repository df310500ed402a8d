use Rattle.std.proofs.Common.{◌≡◌, ◌<◌, ◌+◌, ℕ, List, sum_by, length, get_or, sym, ap, subst, ◌∙◌, arith}
use Rattle.std.proofs.lemmas.Grind.{common_steps}
use Rattle.std.proofs.lemmas.List.{take_all, length-map}
use Rattle.bound_program.specs.declared.programs.Var.{Var}
use Rattle.bound_program.specs.Values.{bound_of, var_of}
use Rattle.bound_program.specs.Fits.{constant_cells}
use Rattle.run_model.proofs.Public.{constants_long}
use Rattle.deep_halo.proofs.ConstantCounts.{cells_some, cells_none, counted_more}
use Rattle.deep_halo.proofs.runs.constant_count.Goals.{then-is_some+in_ok-count, else-is_some}
use Rattle.deep_halo.proofs.runs.constant_count.Goals as goal

more : (c : goal.Joined-is_some) → c.if-is_some.count ≡ c.loop-var.count + constant_cells (var_of c.var-item.result)
more c = elim c.if-is_some.branch [
  | then-is_some+in_ok-count w ↦
      let k : ℕ = length w.as_slice.result.now in
      let n : w.in_ok-count.count ≡ c.loop-var.count + k = grind (arith, common_steps, w.checked_add.ensures, w.in_ok-count.ensures.value) in
      w.count-is ∙ n ∙ ap (λ z. c.loop-var.count + z)
      (ap length w.as_slice.ensures ∙ sym
      (cells_some c.var-item.result.constant (length c.var-item.result.start) (sym c.is_some.ensures ∙ w.if-is_some.true)))
  | else-is_some w ↦
      let z = cells_none c.var-item.result.constant (length c.var-item.result.start) (sym c.is_some.ensures ∙ w.if-is_some.false) in
      omega (arith, w.count-is, z)
]

pub loop-var-preserved : goal.loop-var-preserved
loop-var-preserved c =
    let vars = c.args.bound.now.vars.items in
    let at = c.deref-var-items.ensures.value in
    counted_more vars c.loop-var.var-index c.loop-var.count c.if-is_some.count c.var-item.result
    (subst (λ (l : List Var). c.loop-var.var-index < length l) at c.loop-var-test.true)
    (c.var-item.is ∙ ap (λ (l : List Var). get_or l c.loop-var.var-index c.var-item.result) at)
    c.loop-var.invariant (more c)

pub returns : goal.returns
returns c =
    let b = bound_of c.args.bound.now in
    let n = ap (length {A = Var}) c.deref-var-items.ensures.value in
    c.loop-var.invariant ∙ ap (sum_by constant_cells) (take_all c.loop-var.var-index b.vars (omega (arith, n, length-map c.args.bound.now.vars.items var_of, c.loop-var-test.false)))
    ∙ sym (constants_long b)
