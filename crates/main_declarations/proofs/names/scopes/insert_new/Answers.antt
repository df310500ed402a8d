use Rattle.std.proofs.Common.{rules}
use Rattle.indexmap.proofs.CallerLemmas.{insert_entry-new}
use Rattle.main_declarations.proofs.names.scopes.insert_new.Goals as goal

pub returns : goal.returns
returns c = search (rules, insert_entry-new)
