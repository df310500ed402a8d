use Rattle.std.proofs.Common.{[], sym, ◌∙◌}
use Rattle.std.proofs.lemmas.List.{get_or-map}
use Rattle.local_mesh.specs.declared.types.LocalSet.{LocalSet}
use Rattle.local_mesh.specs.LocalMesh.{originals_in}
use Rattle.rank_layout.proofs.first.originals_of.Goals as goal

pub returns : goal.returns
unfolding originals_in
returns c =
    c.as_slice.ensures ∙ sym (get_or-map (λ (x : LocalSet). x.original) c.args.sets.now c.args.set c.index-sets-set.result [] c.requires)
