use Rattle.std.proofs.Common.{◌∙◌}
use Rattle.indexmap.proofs.CallerLemmas.{insert_entry-new}
use Rattle.mesh_decl.proofs.text.read.add_entry.Goals as goal
use Rattle.lemmas.proofs.Lists.{none_from}

pub returns-clause-ok : goal.returns-clause-ok
returns-clause-ok c = c.in_ok-insert.ensures.entries ∙ insert_entry-new _ c.args.entries.now c.args.name c.args.entry (none_from _ c.requires)
