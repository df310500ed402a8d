use Rattle.std.proofs.Common.{◌≡◌, ◌+◌, drop, None, rules, ap, sym, ◌∙◌}
use Rattle.op_translate.specs.Translation.{or_else, first_refusal, refuses_call}
use Rattle.op_translate.proofs.Steps.{refusal_step, rest_is}
use Rattle.op_translate.proofs.restoring.check_calls.Goals as goal

pub loop-i-preserved : goal.loop-i-preserved
loop-i-preserved c =
    let ts = c.args.tokens.now in
    let none : c.refusal_at.result ≡ None = search rules in
    let here : refuses_call (drop c.loop-i.i ts) ≡ None = ap refuses_call (sym (rest_is c.loop-i.i ts)) ∙ (sym c.refusal_at.ensures ∙ none) in
    c.loop-i.invariant ∙ (refusal_step refuses_call c.loop-i.i ts c.loop-i-test.true ∙ ap (λ z. or_else z (first_refusal refuses_call (drop (c.loop-i.i + 1) ts))) here)
