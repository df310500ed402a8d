use Rattle.std.proofs.Common.{◌∙◌, ap, Vec, ℕ}
use Rattle.std.specs.declared.alloc.Global.{Global}
use Rattle.lemmas.proofs.Rows.{row_at}
use Rattle.rank_layout.proofs.messages.list_of.Goals as goal

pub returns : goal.returns
returns c = c.deref.ensures.value ∙ (ap (λ (v : Vec ℕ Global). v.items) c.index-lists-k.is ∙ row_at c.args.lists.now c.args.k c.index-lists-k.result c.requires)
