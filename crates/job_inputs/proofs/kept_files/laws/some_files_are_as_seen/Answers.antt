use Rattle.std.proofs.Common.{refl}
use Rattle.job_inputs.specs.Seen.{files_of}
use Rattle.job_inputs.proofs.kept_files.Seeing.{made_agree, made_hold}
use Rattle.job_inputs.proofs.kept_files.laws.some_files_are_as_seen.Goals as goal

pub returns : goal.returns
returns c = λ seen sight. (files_of seen, made_agree seen, made_hold seen (sight.there refl))
