use Rattle.loop_plan.proofs.Pairing.{have_exports, exported_is_imported}
use Rattle.loop_plan.proofs.laws.exports_are_messages.Goals as goal

pub returns-clause-lists : goal.returns-clause-lists
returns-clause-lists c = λ g o h owners halos. have_exports g o h halos owners

pub returns-clause-messages : goal.returns-clause-messages
returns-clause-messages c = exported_is_imported
