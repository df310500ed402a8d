use Rattle.std.proofs.Common.{◌≡◌, ◌||◌, ◌∙◌, List, length, arith, ap}
use Rattle.std.proofs.lemmas.List.{with_items_is}
use Rattle.lemmas.specs.Below.{row}
use Rattle.local_mesh.specs.RankSet.{has_at}
use Rattle.local_mesh.specs.declared.rank_sets.rank_set.RankSet.{RankSet}
use Rattle.local_mesh.proofs.rank_sets.Rows.{has_at_replicate}
use Rattle.local_mesh.specs.Standing.{stands}
use Rattle.local_mesh.proofs.groups.ranks_listing.Goals as goal

pub returns-clause-has : goal.returns-clause-has
returns-clause-has c =
    let n : length c.add_ranks.new.sets ≡ c.in_ok-sets.sets.len = omega (arith, c.add_ranks.auto.sets, c.deref_mut.ensures.len) in
    rw (with_items_is c.in_ok-sets.sets c.add_ranks.new.sets n) (λ x r. c.add_ranks.ensures x r
    ∙ ap (λ b. b || stands (row c.args.lists.now r) x)
    (ap (λ (q : List RankSet). has_at q x r) (c.deref_mut.ensures.value ∙ c.in_ok-sets.ensures.items_if_clones_equal (λ y h. h))
    ∙ has_at_replicate c.args.size c.empty.result c.empty.ensures x r))
