use Rattle.std.proofs.Common.{[], ◌∙◌}
use Rattle.std.proofs.lemmas.List.{get_or_read}
use Rattle.mesh_decl.specs.Owners.{perm_in}
use Rattle.mesh_decl.proofs.owners.Perms.of_set.Goals as goal

pub returns : goal.returns
unfolding perm_in
returns c = c.as_slice.ensures ∙ get_or_read c.args.self.now.sets.items c.args.set c.index.result.now c.requires c.index.ensures []
