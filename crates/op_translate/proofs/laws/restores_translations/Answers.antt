use Rattle.op_translate.proofs.Restorable.{restorable}
use Rattle.op_translate.proofs.laws.restores_translations.Goals as goal

pub returns : goal.returns
returns c = restorable (λ bytes a b x y. c.one_outcome.ensures bytes a b x y)
