use Rattle.std.proofs.Common.{◌<◌, List, length, get_or, refl, ap, arith}
use Rattle.std.proofs.lemmas.List.{length-map}
use Rattle.bound_program.specs.declared.programs.Var.{Var}
use Rattle.bound_program.specs.Values.{VarValue, bound_of, var_of}
use Rattle.rank_layout.proofs.VariableNumbers.{begins_at, cells_fit, read_at, width_at}
use Rattle.rank_layout.proofs.ConstantNumbers.{none_so_far, has_room, one_more, all_numbered}
use Rattle.rank_layout.proofs.constant_table.put_all.Goals as goal

pub loop-v-init : goal.loop-v-init
loop-v-init c = none_so_far (bound_of c.args.bound.now) c.args.table.now c.requires.table

pub put_constants-requires-clause-start : goal.put_constants-requires-clause-start
put_constants-requires-clause-start c =
    let b = bound_of c.args.bound.now in
    let lv : c.loop-v.v < length b.vars = omega (arith, length-map c.args.bound.now.vars.items var_of, c.loop-v-test.true, ap (λ (z : List Var). length z) c.deref-var-items.ensures.value) in
    cells_fit b c.loop-v.v (get_or c.args.starts.now c.loop-v.v 0) (length c.var-item.result.start) c.requires.few lv (omega (arith, c.type_inv.starts c.loop-v.v))
    (begins_at b c.args.starts.now c.requires.starts c.loop-v.v lv)
    (width_at b c.args.bound.now.vars.items c.deref-var-items.result.now c.loop-v.v c.var-item.result refl c.deref-var-items.ensures.value lv c.var-item.is)

pub put_constants-requires-clause-table : goal.put_constants-requires-clause-table
put_constants-requires-clause-table c =
    let b = bound_of c.args.bound.now in
    let lv : c.loop-v.v < length b.vars = omega (arith, length-map c.args.bound.now.vars.items var_of, c.loop-v-test.true, ap (λ (z : List Var). length z) c.deref-var-items.ensures.value) in
    has_room b (c.constants_are_read.ensures.numbered b c.requires.fit) c.requires.fit c.loop-v.v c.var-item.result.constant (length c.var-item.result.start) (length c.loop-v.table) lv
    (ap (λ (z : VarValue). z.constant) (read_at b c.args.bound.now.vars.items c.deref-var-items.result.now c.loop-v.v c.var-item.result refl c.deref-var-items.ensures.value lv c.var-item.is))
    (width_at b c.args.bound.now.vars.items c.deref-var-items.result.now c.loop-v.v c.var-item.result refl c.deref-var-items.ensures.value lv c.var-item.is)
    c.loop-v.invariant.count

pub loop-v-preserved : goal.loop-v-preserved
loop-v-preserved c =
    let b = bound_of c.args.bound.now in
    let lv : c.loop-v.v < length b.vars = omega (arith, length-map c.args.bound.now.vars.items var_of, c.loop-v-test.true, ap (λ (z : List Var). length z) c.deref-var-items.ensures.value) in
    one_more b (c.constants_are_read.ensures.numbered b c.requires.fit) c.loop-v.v lv (get_or c.args.starts.now c.loop-v.v 0) (length c.var-item.result.start)
    (begins_at b c.args.starts.now c.requires.starts c.loop-v.v lv)
    (width_at b c.args.bound.now.vars.items c.deref-var-items.result.now c.loop-v.v c.var-item.result refl c.deref-var-items.ensures.value lv c.var-item.is)
    c.loop-v.table c.put_constants.new.table c.put_constants.auto.table c.loop-v.invariant c.var-item.result.constant
    (ap (λ (z : VarValue). z.constant) (read_at b c.args.bound.now.vars.items c.deref-var-items.result.now c.loop-v.v c.var-item.result refl c.deref-var-items.ensures.value lv c.var-item.is))
    c.put_constants.ensures

pub returns : goal.returns
returns c =
    let b = bound_of c.args.bound.now in
    all_numbered b (c.constants_are_read.ensures.numbered b c.requires.fit) c.loop-v.table c.loop-v.v
    (omega (arith, length-map c.args.bound.now.vars.items var_of, c.loop-v-test.false, ap (λ (z : List Var). length z) c.deref-var-items.ensures.value)) c.loop-v.invariant
