use Rattle.std.proofs.Common.{[], ◌∷◌}
use Rattle.std.proofs.lemmas.Result.{err_from_is_err_and}
use Rattle.bound_program.specs.Values.{Free, Reduce}
use Rattle.bound_program.specs.Trace.{Does}
use Rattle.bound_program.proofs.trace.Leaves.{leaves-then, first_done, first_stops}
use Rattle.bound_program.proofs.trace.unroll.push_loop.Goals as goal

pub returns-in_err-push-in-Reducing-clause-leaves :
    goal.returns-in_err-push-in-Reducing-clause-leaves
returns-in_err-push-in-Reducing-clause-leaves c =
    let p = err_from_is_err_and c.from_residual.result c.from_residual.ensures.1 in
    let n = c.args.site in
    rw (p.1, p.2, c.in-Reducing.is)
    (first_stops (Unit {0}) (Unit {0}) c.args.out.now c.push-in-Reducing.new.out c.push-in-Reducing.new.out (Does (Free n) ∷ [])
    (Does (Reduce n) ∷ []) c.in_err-push-in-Reducing.field-0.0 c.in_err-push-in-Reducing.ensures.leaves)

pub returns-in_ok-push-in-Reducing-clause-leaves :
    goal.returns-in_ok-push-in-Reducing-clause-leaves
returns-in_ok-push-in-Reducing-clause-leaves c =
    let n = c.args.site in
    rw c.in-Reducing.is (leaves-then c.args.out.now c.push-in-Reducing.new.out c.push-in-Reducing-2.new.out
    (Does (Free n) ∷ Does (Reduce n) ∷ []) (Does (Reduce n) ∷ []) c.push-in-Reducing-2.result
    (first_done c.args.out.now c.push-in-Reducing.new.out (Does (Free n) ∷ []) (Does (Reduce n) ∷ [])
    c.in_ok-push-in-Reducing.ensures.leaves) c.push-in-Reducing-2.ensures.leaves)
