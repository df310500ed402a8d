use Rattle.std.proofs.Common.{rules}
use Rattle.indexmap.proofs.CallerLemmas.{insert_entry-new}
use Rattle.loop_bind.proofs.main_text.globals.insert_new.Goals as goal

pub returns : goal.returns
returns c = search (rules, insert_entry-new)
