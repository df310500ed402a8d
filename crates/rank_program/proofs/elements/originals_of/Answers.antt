use Rattle.std.proofs.Common.{◌<◌, List, [], length, ap, sym, subst, ◌∙◌}
use Rattle.std.proofs.lemmas.List.{get_or-map}
use Rattle.local_mesh.specs.declared.types.LocalSet.{LocalSet}
use Rattle.local_mesh.specs.LocalMesh.{originals_in}
use Rattle.rank_program.proofs.elements.originals_of.Goals as goal

pub returns : goal.returns
unfolding originals_in
returns c =
    let l : c.args.set < length c.sets_of.result.now = subst (λ (z : List LocalSet). c.args.set < length z) (sym c.sets_of.ensures) c.requires.set in
    c.as_slice.ensures
    ∙ (sym (get_or-map (λ (x : LocalSet). x.original) c.sets_of.result.now c.args.set c.index-sets_of-set.result [] l)
    ∙ ap (λ (z : List LocalSet). originals_in z c.args.set) c.sets_of.ensures)
