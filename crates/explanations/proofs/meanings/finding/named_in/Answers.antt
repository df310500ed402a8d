use Rattle.std.proofs.Common.{sym, ap}
use Rattle.std.specs.List.{find}
use Rattle.explanations.specs.Texts.{texts_of, has_name}
use Rattle.explanations.proofs.meanings.finding.named_in.Goals as goal

pub loop-rest-init : goal.loop-rest-init
loop-rest-init c = ap (λ b. find (has_name c.args.name.now) (texts_of b)) (sym c.as_bytes.ensures.value)
