use Rattle.std.proofs.Common.{◌≡◌, List, ℤ, [], ◌++◌, map, subst, refl}
use Rattle.std.proofs.lemmas.Result.{err_from_is_err_and}
use Rattle.bound_program.specs.declared.trace.steps.Unrolled.{Unrolled}
use Rattle.bound_program.specs.Values.{site_of, Host, Exit}
use Rattle.bound_program.specs.Trace.{Event, Does, events}
use Rattle.bound_program.specs.Limited.{before, unrolled}
use Rattle.bound_program.specs.Unrolling.{step_of, seen}
use Rattle.bound_program.proofs.trace.Whole.{IsEmpty, exit_ok, exit_err}
use Rattle.bound_program.proofs.trace.unroll.unroll_main.Goals as goal

pub returns : goal.returns
returns c =
    let u : Unrolled = record { items = c.new.result; values = c.new-2.result; left = 65536 } in
    let empty : IsEmpty u = record { items = c.new.ensures.items; values = c.new-2.ensures.items; left = refl } in
    let sites = map site_of c.args.sites.now in
    let h = subst (λ (ts : List ℤ). (rest : List Event)
    → before (seen u) (unrolled u.left (events sites ts (step_of c.args.body.now) ++ rest)) ≡ before (seen c.unroll.new.out)
    (unrolled c.unroll.new.out.left rest)) c.new-told.ensures.items c.in_ok-unroll.ensures.leaves in
    exit_ok u c.unroll.new.out c.push_exit.new.out (events sites [] (step_of c.args.body.now)) (Does (Host Exit)) empty h c.in_ok-push_exit.ensures.leaves

pub returns-in_err-push_exit : goal.returns-in_err-push_exit
returns-in_err-push_exit c =
    let u : Unrolled = record { items = c.new.result; values = c.new-2.result; left = 65536 } in
    let empty : IsEmpty u = record { items = c.new.ensures.items; values = c.new-2.ensures.items; left = refl } in
    let sites = map site_of c.args.sites.now in
    let p = err_from_is_err_and c.from_residual-in_err-push_exit.result c.from_residual-in_err-push_exit.ensures.1 in
    let h = subst (λ (ts : List ℤ). (rest : List Event)
    → before (seen u) (unrolled u.left (events sites ts (step_of c.args.body.now) ++ rest)) ≡ before (seen c.unroll.new.out)
    (unrolled c.unroll.new.out.left rest)) c.new-told.ensures.items c.in_ok-unroll.ensures.leaves in
    rw (p.1, p.2) (exit_err u c.unroll.new.out c.push_exit.new.out (events sites [] (step_of c.args.body.now)) (Does (Host Exit))
    c.in_err-push_exit.field-0.0 empty h c.in_err-push_exit.ensures.leaves)
