use Rattle.std.proofs.Common.{◌≡◌, drop}
use Rattle.op_translate.specs.Translation.{first_refusal, refuses_call}
use Rattle.op_translate.proofs.restoring.check_calls.Given as goal

abbrev pub invariant-loop-i : goal.invariant-loop-i
invariant-loop-i l = first_refusal refuses_call l.tokens ≡ first_refusal refuses_call (drop l.i l.tokens)
