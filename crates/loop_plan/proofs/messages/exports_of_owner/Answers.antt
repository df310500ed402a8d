use Rattle.std.proofs.Common.{◌∙◌, ap, Vec, ℕ}
use Rattle.std.specs.declared.alloc.Global.{Global}
use Rattle.lemmas.proofs.Rows.{rows_at}
use Rattle.loop_plan.proofs.messages.exports_of_owner.Goals as goal

pub returns : goal.returns
returns c = c.deref.ensures.value ∙ (ap (λ (v : Vec (Vec ℕ Global) Global). v.items) c.index-exports-owner.is ∙ rows_at c.args.exports.now c.args.owner c.index-exports-owner.result c.requires)
