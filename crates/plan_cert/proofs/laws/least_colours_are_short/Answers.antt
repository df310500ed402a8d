use Rattle.plan_cert.proofs.ShortColours.{least_are_short}
use Rattle.plan_cert.proofs.laws.least_colours_are_short.Goals as goal

pub returns : goal.returns
returns c = least_are_short
