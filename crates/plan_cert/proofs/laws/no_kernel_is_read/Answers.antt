use Rattle.plan_cert.proofs.SameLoops.{certified_to, refused_to}
use Rattle.plan_cert.proofs.laws.no_kernel_is_read.Goals as goal

pub returns : goal.returns
returns c = record { certified = certified_to; refused = refused_to }
