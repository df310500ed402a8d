use Rattle.std.proofs.Common.{◌≡◌, ◌≤◌, ◌+◌, ◌^◌, ℕ, length, ⊎_elim, sym, arith, ◌∙◌}
use Rattle.std.proofs.lemmas.Bool.{cases_lt}
use Rattle.std.proofs.lemmas.List.{length-map}
use Rattle.bound_program.specs.Values.{bound_of, item_of}
use Rattle.loop_plan.specs.Needs.{run_of, item_at}
use Rattle.loop_plan.specs.ItemPlans.{plan_in}
use Rattle.loop_plan.specs.StepCounts.{steps_by, steps_of_plans}
use Rattle.loop_plan.proofs.WholeSums.{counts_within, where_none}
use Rattle.loop_plan.proofs.counting.count_steps.Goals as goal

pub returns-in_err-more-clause-none : goal.returns-in_err-more-clause-none
returns-in_err-more-clause-none c =
    let b = bound_of c.args.bound.now in
    let f : ℕ → ℕ = λ k. steps_by (run_of (item_at b k)) (length (plan_in c.args.items.now k).pairs) c.args.totals.now in
    let here : 2 ^ 64 ≤ f c.loop-item.item =
    rw (sym c.run_at.ensures, sym c.message_count-messages.ensures) c.in_err-more.ensures.none in
    let e : length b.trace ≡ c.len-item-end.result = length-map c.args.bound.now.trace.items item_of ∙ sym (c.len-item-end.ensures ∙ c.args.bound.now.trace.ok.0) in
    let within = counts_within f c.loop-item.item (length b.trace) (omega (arith, e, c.loop-item-test.true)) in
    where_none (2 ^ 64 ≤ steps_of_plans b c.args.items.now c.args.totals.now (length b.trace)) c.from_residual.result (omega arith)

pub returns-in_err-steps-clause-none : goal.returns-in_err-steps-clause-none
returns-in_err-steps-clause-none c =
    let b = bound_of c.args.bound.now in
    let f : ℕ → ℕ = λ k. steps_by (run_of (item_at b k)) (length (plan_in c.args.items.now k).pairs) c.args.totals.now in
    let here : f c.loop-item.item ≡ c.in_ok-more.more =
    rw (sym c.run_at.ensures, sym c.message_count-messages.ensures) (sym c.in_ok-more.ensures.some) in
    let e : length b.trace ≡ c.len-item-end.result = length-map c.args.bound.now.trace.items item_of ∙ sym (c.len-item-end.ensures ∙ c.args.bound.now.trace.ok.0) in
    let within = counts_within f c.loop-item.item (length b.trace) (omega (arith, e, c.loop-item-test.true)) in
    let past : 2 ^ 64 ≤ c.loop-item.steps + c.in_ok-more.more =
    ⊎_elim (λ l. absurd (c.in_err-steps.ensures l)) (λ g. g) (cases_lt (c.loop-item.steps + c.in_ok-more.more) (2 ^ 64)) in
    let before = c.loop-item.invariant in
    where_none (2 ^ 64 ≤ steps_of_plans b c.args.items.now c.args.totals.now (length b.trace)) c.from_residual-in_err-steps.result (omega arith)
