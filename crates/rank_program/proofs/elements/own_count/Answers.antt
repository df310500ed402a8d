use Rattle.std.proofs.Common.{◌≡◌, ◌<◌, ℕ, List, length, get_or, ap, sym, subst, ◌∙◌}
use Rattle.std.proofs.lemmas.List.{get_or-map}
use Rattle.local_mesh.specs.declared.types.LocalSet.{LocalSet}
use Rattle.local_mesh.specs.Numbers.{own_in}
use Rattle.rank_program.proofs.elements.own_count.Goals as goal

own_at : (sets : List LocalSet) (s : ℕ) (l : LocalSet) → s < length sets → (get_or sets s l).own ≡ own_in sets s
unfolding own_in
own_at sets s l lt = sym (get_or-map (λ (x : LocalSet). x.own) sets s l 0 lt)

pub returns : goal.returns
returns c =
    let l : c.args.set < length c.sets_of.result.now = subst (λ (z : List LocalSet). c.args.set < length z) (sym c.sets_of.ensures) c.requires.set in
    own_at c.sets_of.result.now c.args.set c.index-sets_of-set.result l ∙ ap (λ (z : List LocalSet). own_in z c.args.set) c.sets_of.ensures
