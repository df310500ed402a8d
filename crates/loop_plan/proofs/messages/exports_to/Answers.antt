use Rattle.std.proofs.Common.{◌∙◌, ap, Vec, ℕ}
use Rattle.std.specs.declared.alloc.Global.{Global}
use Rattle.lemmas.proofs.Rows.{row_at}
use Rattle.loop_plan.proofs.messages.exports_to.Goals as goal

pub returns : goal.returns
returns c = c.deref.ensures.value ∙ (ap (λ (v : Vec ℕ Global). v.items) c.index-exports-rank.is ∙ row_at c.args.exports.now c.args.rank c.index-exports-rank.result c.requires)
