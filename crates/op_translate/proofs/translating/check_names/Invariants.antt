use Rattle.std.proofs.Common.{◌≡◌, drop}
use Rattle.op_translate.specs.Translation.{first_refusal, refuses_stub}
use Rattle.op_translate.proofs.translating.check_names.Given as goal

abbrev pub invariant-loop-token : goal.invariant-loop-token
invariant-loop-token l = first_refusal refuses_stub l.tokens ≡ first_refusal refuses_stub (drop l.token-index l.tokens)
