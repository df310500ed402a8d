use Rattle.std.proofs.Common.{◌≡◌, ◌<◌, ◌≤◌, ◌+◌, suc, map, length, refl, ap, sym, subst, ◌∙◌, arith}
use Rattle.std.proofs.lemmas.List.{length-map}
use Rattle.bound_program.specs.Values.{VarValue, var_of}
use Rattle.run_model.specs.Arguments.{var_width}
use Rattle.run_model.specs.Memory.{var_start, memory_length}
use Rattle.run_model.specs.Variables.{of_vars}
use Rattle.run_model.proofs.gather.host_acts.Begun.{Begun, begun_none, begun_more}
use Rattle.run_model.proofs.gather.host_acts.Places.{var_is}
use Rattle.run_model.proofs.gather.host_acts.starts.variable_starts.Goals as goal

pub loop-var-init : goal.loop-var-init
loop-var-init c = subst (λ l. Begun (map var_of c.args.vars.now) l 0 0) (sym (c.in_ok-starts.ensures.items)) (begun_none (map var_of c.args.vars.now))

wide : (c : goal.After-as_slice) → length c.as_slice.result.now ≡ var_width (of_vars (map var_of c.args.vars.now)) c.loop-var.var-index
wide c = ap length c.as_slice.ensures ∙ ap (λ (v : VarValue). length v.start) (sym (var_is c.args.vars.now c.loop-var.var-index c.var-item.result c.loop-var-test.true c.var-item.is))

pub overflow_add-next : goal.overflow_add-next
overflow_add-next c =
    let b = of_vars (map var_of c.args.vars.now) in
    let lv : c.loop-var.var-index < length (map var_of c.args.vars.now) = omega (arith, length-map c.args.vars.now var_of, c.loop-var-test.true) in
    let after : var_start b c.loop-var.var-index + var_width b c.loop-var.var-index ≤ memory_length b =
    (c.memory_holds.ensures.order b).vars c.loop-var.var-index (length (map var_of c.args.vars.now)) lv in
    omega (arith, after, wide c, c.loop-var.invariant.next_is, c.requires)

pub loop-var-preserved : goal.loop-var-preserved
loop-var-preserved c =
    let b = of_vars (map var_of c.args.vars.now) in
    let s : var_start b (suc c.loop-var.var-index) ≡ var_start b c.loop-var.var-index + var_width b c.loop-var.var-index = refl in
    begun_more (map var_of c.args.vars.now) c.loop-var.starts.items c.push.new.self.items c.loop-var.next
    (c.loop-var.next + length c.as_slice.result.now) c.loop-var.var-index (c.loop-var.var-index + 1)
    c.loop-var.invariant c.in_ok-push.ensures.items refl (omega (arith, s, wide c, c.loop-var.invariant.next_is))

pub returns : goal.returns
returns c =
    let n : length (map var_of c.args.vars.now) ≡ c.loop-var.var-index = omega (arith, length-map c.args.vars.now var_of, c.loop-var-test.false, c.loop-var.auto.var-index-end) in
    record {
      all = c.loop-var.invariant.count ∙ sym n;
      each = λ v lt. c.loop-var.invariant.each v (omega (arith, lt, n));
    }
