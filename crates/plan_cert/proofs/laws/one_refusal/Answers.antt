use Rattle.plan_cert.proofs.OneOutcome.{one_refusal}
use Rattle.plan_cert.proofs.laws.one_refusal.Goals as goal

pub returns : goal.returns
returns c = one_refusal
