use Rattle.std.proofs.Common.{refl}
use Rattle.job_inputs.proofs.kept_files.Finding.{finds_weaker}
use Rattle.job_inputs.proofs.Chained.{if_ok_weaker}
use Rattle.job_inputs.proofs.chosen.state_text_of.Goals as goal

pub returns-in-From-clause-read : goal.returns-in-From-clause-read
returns-in-From-clause-read g c =
    rw c.in-From.is (if_ok_weaker c.file_of.result _ _ (λ v found. finds_weaker _ _ _ _ _ (λ files held. (v.items, held, refl)) found) c.file_of.ensures.read)

pub returns-in-From-clause-err : goal.returns-in-From-clause-err
returns-in-From-clause-err g c = rw c.in-From.is c.file_of.ensures.err
