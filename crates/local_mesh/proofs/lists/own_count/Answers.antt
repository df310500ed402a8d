use Rattle.std.proofs.Common.{◌<◌, List, length, ap, sym, subst, ◌∙◌}
use Rattle.local_mesh.specs.declared.types.LocalSet.{LocalSet}
use Rattle.local_mesh.specs.Numbers.{own_in}
use Rattle.local_mesh.proofs.Firsts.{own_at}
use Rattle.local_mesh.proofs.lists.own_count.Goals as goal

pub returns : goal.returns
returns c =
    let l : c.args.set < length c.sets_of.result.now = subst (λ (z : List LocalSet). c.args.set < length z) (sym c.sets_of.ensures) c.requires.set in
    sym (own_at c.sets_of.result.now c.args.set c.index-sets_of-set.result l) ∙ ap (λ (z : List LocalSet). own_in z c.args.set) c.sets_of.ensures
