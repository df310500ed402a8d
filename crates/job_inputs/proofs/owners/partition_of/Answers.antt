use Rattle.std.proofs.Common.{refl}
use Rattle.job_inputs.proofs.kept_files.Finding.{finds_weaker}
use Rattle.job_inputs.proofs.Chained.{if_ok_weaker}
use Rattle.job_inputs.proofs.owners.partition_of.Goals as goal

pub returns-in-ByFile-clause-read : goal.returns-in-ByFile-clause-read
returns-in-ByFile-clause-read g c =
    rw c.in-ByFile.is (if_ok_weaker c.file_of.result _ _ (λ v found. finds_weaker _ _ _ _ _ (λ files held. (v.items, held, refl)) found) c.file_of.ensures.read)

pub returns-in-ByFile-clause-err : goal.returns-in-ByFile-clause-err
returns-in-ByFile-clause-err g c = rw c.in-ByFile.is c.file_of.ensures.err
