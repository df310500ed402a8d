use Rattle.std.proofs.Common.{[], sym, ◌∙◌}
use Rattle.std.proofs.lemmas.List.{get_or-map}
use Rattle.local_mesh.specs.declared.types.RankMesh.{RankMesh}
use Rattle.local_mesh.specs.Lists.{sets_of}
use Rattle.rank_program.proofs.elements.sets_of.Goals as goal

pub returns : goal.returns
unfolding sets_of
returns c = c.deref.ensures.value ∙ sym (get_or-map (λ (m : RankMesh). m.sets.items) c.args.meshes.now c.args.rank c.index-meshes-rank.result [] c.requires)
