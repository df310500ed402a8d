use Rattle.std.proofs.Common.{refl}
use Rattle.job_inputs.proofs.kept_files.Finding.{finds_weaker}
use Rattle.job_inputs.proofs.Chained.{if_ok_weaker}
use Rattle.job_inputs.proofs.plan_texts.plan_text_of.Goals as goal

pub returns-in-AsPlanned-clause-read : goal.returns-in-AsPlanned-clause-read
returns-in-AsPlanned-clause-read g c =
    rw c.in-AsPlanned.is (if_ok_weaker c.file_of.result _ _ (λ v found. finds_weaker _ _ _ _ _ (λ files held. (v.items, held, refl)) found) c.file_of.ensures.read)

pub returns-in-AsPlanned-clause-err : goal.returns-in-AsPlanned-clause-err
returns-in-AsPlanned-clause-err g c = rw c.in-AsPlanned.is c.file_of.ensures.err
