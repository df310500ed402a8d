use Rattle.std.proofs.Common.{◌≡◌, ◌∙◌, sym, ap, map, length, ℕ, List, Ok}
use Rattle.std.proofs.lemmas.Result.{err_from_is_err_and}
use Rattle.c_tree.specs.declared.expressions.Expr.{Expr}
use Rattle.c_tree.specs.declared.hosts.LoopArg.{LoopArg}
use Rattle.c_tree.specs.Tree as tree
use Rattle.c_tree.specs.View.{expr_of, call_of}
use Rattle.bound_program.specs.Values.{act_of}
use Rattle.bound_program.specs.Refusals.{◌>>=◌}
use Rattle.bound_program.specs.Steps.{Loop, Steps}
use Rattle.main_declarations.specs.SoFar.{does, behind}
use Rattle.main_declarations.specs.Walks.{declared_of, walked}
use Rattle.loop_bind.proofs.main_text.HostTurns.{line_stops, line_done}
use Rattle.loop_bind.proofs.main_text.text_walk.judged_call.Goals as goal

pub returns-in_err-act-in-Printf : goal.returns-in_err-act-in-Printf
returns-in_err-act-in-Printf c =
    let s = c.args.source.now in
    let es = c.deref-in-Printf.result.now in
    let a = walked c.args.k.now c.args.steps.now.items in
    let e : call_of c.args.call.now ≡ tree.Printf c.in-Printf.at c.in-Printf.text (map expr_of es) =
    ap call_of c.in-Printf.is ∙ ap (λ (xs : List Expr). tree.Printf c.in-Printf.at c.in-Printf.text (map expr_of xs)) (sym c.deref-in-Printf.ensures.value) in
    let p = err_from_is_err_and c.from_residual-in_err-act-in-Printf.result c.from_residual-in_err-act-in-Printf.ensures.1 in
    rw (e, p.1, p.2) (line_stops s.places.now s.consts.now s.entries.now.entries a c.args.spot c.in-Printf.at c.in-Printf.text es c.in_err-act-in-Printf.field-0.0 _ a c.in_err-act-in-Printf.ensures)

pub returns-in_ok-add_step-in-ParLoop : goal.returns-in_ok-add_step-in-ParLoop
returns-in_ok-add_step-in-ParLoop c =
    let i = c.in-ParLoop in
    let a = walked c.args.k.now c.args.steps.now.items in
    let k = declared_of c.judged_loop.new.k in
    let e : call_of c.args.call.now ≡ tree.ParLoop i.at i.kernel i.label i.set c.deref.result.now =
    ap call_of i.is ∙ ap (λ (xs : List LoopArg). tree.ParLoop i.at i.kernel i.label i.set xs) (sym c.deref.ensures.value) in
    rw e (ap (λ r. r >>= λ b. Ok (does (Loop (length a.declared.sites)) (behind a b))) c.in_ok-judged_loop-in-ParLoop.ensures
    ∙ ap (λ (n : ℕ). Ok (does (Loop n) (behind a k))) (sym c.in_ok-number-in-ParLoop.ensures)
    ∙ ap (λ (ss : Steps). Ok (record { declared = k; steps = ss })) (sym c.in_ok-add_step-in-ParLoop.ensures))

pub returns-in_ok-add_act-in-Printf : goal.returns-in_ok-add_act-in-Printf
returns-in_ok-add_act-in-Printf c =
    let s = c.args.source.now in
    let es = c.deref-in-Printf.result.now in
    let a = walked c.args.k.now c.args.steps.now.items in
    let e : call_of c.args.call.now ≡ tree.Printf c.in-Printf.at c.in-Printf.text (map expr_of es) =
    ap call_of c.in-Printf.is ∙ ap (λ (xs : List Expr). tree.Printf c.in-Printf.at c.in-Printf.text (map expr_of xs)) (sym c.deref-in-Printf.ensures.value) in
    rw e (line_done s.places.now s.consts.now s.entries.now.entries a c.args.spot c.in-Printf.at c.in-Printf.text es (act_of c.in_ok-act-in-Printf.act) c.in_ok-act-in-Printf.ensures
    ∙ ap (λ (ss : Steps). Ok (record { declared = a.declared; steps = ss })) (sym c.in_ok-add_act-in-Printf.ensures))
