use Rattle.std.proofs.Common.{sym, ap}
use Rattle.std.specs.List.{find}
use Rattle.explanations.specs.Texts.{texts_of, explains}
use Rattle.explanations.proofs.meanings.finding.explaining_in.Goals as goal

pub loop-rest-init : goal.loop-rest-init
loop-rest-init c = ap (λ b. find (explains c.args.line.now) (texts_of b)) (sym c.as_bytes.ensures.value)
