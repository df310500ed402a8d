use Rattle.std.proofs.Common.{◌<◌, ◌∙◌, refl, sym, w32, arith}
use Rattle.std.specs.Prelude.{option_map}
use Rattle.std.proofs.lemmas.Int.{to_z-of_z}
use Rattle.std.proofs.lemmas.Result.{err_from_is_err_and}
use Rattle.kernel_model.specs.View.{rexpr_of}
use Rattle.bound_program.specs.HostExpr.{closed}
use Rattle.run_model.specs.Acts.{program_of}
use Rattle.run_model.proofs.gather.host_acts.ActSteps.{index_faults, value_faults, assigns}
use Rattle.run_model.proofs.gather.host_acts.acts.assign.Goals as goal

pub returns-in_err-i : goal.returns-in_err-i
returns-in_err-i c s out holds =
    let a = c.args.all.now in
    let p = err_from_is_err_and c.from_residual.result c.from_residual.ensures.1 in
    index_faults (program_of c.args.known.now) (c.memory_holds.ensures.order (program_of c.args.known.now)) c.memory_holds.ensures.variables c.args.cells.now s holds
    c.args.var c.var_place-place.result.from c.var_place-place.result.count
    c.requires.var c.requires.some c.var_place-place.ensures.from c.var_place-place.ensures.count refl
    (option_map (closed a.told.now) (option_map rexpr_of a.index.now)) a.op a.op_at (closed a.told.now (rexpr_of a.value.now)) a.at out
    c.in_err-i.field-0.0 p.0 c.from_residual.result p.1 p.2 (sym c.component_of.ensures.value ∙ c.in_err-i.was)

pub returns-in_err-z : goal.returns-in_err-z
returns-in_err-z c s out holds =
    let a = c.args.all.now in
    let p = err_from_is_err_and c.from_residual-in_err-z.result c.from_residual-in_err-z.ensures.1 in
    value_faults (program_of c.args.known.now) (c.memory_holds.ensures.order (program_of c.args.known.now)) c.memory_holds.ensures.variables c.args.cells.now s holds
    c.args.var c.var_place-place.result.from c.var_place-place.result.count
    c.requires.var c.requires.some c.var_place-place.ensures.from c.var_place-place.ensures.count refl
    (option_map (closed a.told.now) (option_map rexpr_of a.index.now)) a.op a.op_at (closed a.told.now (rexpr_of a.value.now)) a.at out
    c.in_ok-i.i (sym c.component_of.ensures.value ∙ c.in_ok-i.was)
    c.in_err-z.field-0.0 p.0 c.from_residual-in_err-z.result p.1 p.2 (sym c.new_value.ensures.value ∙ c.in_err-z.was)

pub returns : goal.returns
returns c s out holds =
    let a = c.args.all.now in
    let some : 0 < c.var_place-place.result.count = omega (arith, c.requires.some, c.var_place-place.ensures.count) in
    assigns (program_of c.args.known.now) (c.memory_holds.ensures.order (program_of c.args.known.now)) c.memory_holds.ensures.variables c.args.cells.now s holds
    c.args.var c.var_place-place.result.from c.var_place-place.result.count
    c.requires.var c.requires.some c.var_place-place.ensures.from c.var_place-place.ensures.count refl
    (option_map (closed a.told.now) (option_map rexpr_of a.index.now)) a.op a.op_at (closed a.told.now (rexpr_of a.value.now)) a.at out
    c.in_ok-i.i (sym c.component_of.ensures.value ∙ c.in_ok-i.was)
    c.memory_holds.ensures.assignments (tt {0}) c.in_ok-z.z _ (to_z-of_z w32 c.in_ok-z.z c.in_ok-z.ensures.range)
    (c.in_ok-i.ensures.within some) (sym c.new_value.ensures.value ∙ c.in_ok-z.was)
