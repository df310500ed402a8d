use Rattle.std.proofs.Common.{◌≡◌, ap, ◌∙◌, ◌++◌, [], ◌∷◌}
use Rattle.indexmap.proofs.CallerLemmas.{insert_entry-new}
use Rattle.mesh_decl.specs.Spelling.{has_name}
use Rattle.mesh_gen.proofs.entries.put.Goals as goal
use Rattle.lemmas.proofs.Lists.{none_from}

pub returns : goal.returns
returns c =
    let named : c.new-name.result ≡ c.args.name.now = c.new-name.ensures ∙ c.in_ok-from_slice.ensures.items ∙ c.as_bytes.ensures.value in
    c.in_ok-insert.ensures.entries
    ∙ insert_entry-new _ c.args.entries.now c.new-name.result c.args.entry (none_from _ (ap (λ x. has_name x c.args.entries.now.entries) named ∙ c.requires))
    ∙ ap (λ x. c.args.entries.now.entries ++ (x, c.args.entry) ∷ []) named
