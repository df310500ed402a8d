use Rattle.std.proofs.Common.{◌∙◌, ap, Vec, ℕ}
use Rattle.std.specs.declared.alloc.Global.{Global}
use Rattle.lemmas.proofs.Rows.{rows_at}
use Rattle.rank_layout.proofs.messages.lists_of.Goals as goal

pub returns : goal.returns
returns c = c.deref.ensures.value ∙ (ap (λ (v : Vec (Vec ℕ Global) Global). v.items) c.index-tables-a.is ∙ rows_at c.args.tables.now c.args.a c.index-tables-a.result c.requires)
