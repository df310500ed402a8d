use Rattle.std.proofs.Common.{ap, sym, ◌∙◌}
use Rattle.op_translate.specs.Translation.{restored}
use Rattle.op_translate.proofs.laws.one_restoration.Goals as goal

pub returns : goal.returns
returns c bytes a b x y = x.is ∙ (ap (restored bytes) (c.one_outcome.ensures bytes x.found y.found x.lexed y.lexed) ∙ sym y.is)
