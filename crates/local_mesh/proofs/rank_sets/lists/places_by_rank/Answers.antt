use Rattle.std.proofs.Common.{◌≡◌, ◌<◌, ◌++◌, ◌∷◌, [], ap, ◌∙◌, arith, length, cond, List, Vec, ℕ}
use Rattle.std.specs.declared.alloc.Global.{Global}
use Rattle.std.proofs.lemmas.List.{with_items_is}
use Rattle.lemmas.specs.Below.{row}
use Rattle.local_mesh.specs.RankSet.{has_at}
use Rattle.lemmas.proofs.Below.{listed_step}
use Rattle.local_mesh.proofs.rank_sets.lists.places_by_rank.Goals as goal

pub push_each-requires-clause-ranks : goal.push_each-requires-clause-ranks
unfolding has_at
push_each-requires-clause-ranks c = λ r l h. let b : r < c.args.ranks = c.requires.below c.loop-place.place r (omega arith) l h in
    omega (arith, c.deref_mut.ensures.len, c.loop-place.invariant.0, c.loop-place.lists.ok.0)

pub loop-place-preserved : goal.loop-place-preserved
unfolding has_at
loop-place-preserved c =
    let v = c.loop-place.lists in
    let n : length c.push_each.new.lists ≡ v.len = omega (arith, c.push_each.auto.lists, c.deref_mut.ensures.len) in
    let same : length c.push_each.new.lists ≡ c.args.ranks = omega (arith, v.ok.0, c.loop-place.invariant.0) in
    let e = with_items_is v c.push_each.new.lists n in
    rw e (
      same,
      λ r l. listed_step (row c.push_each.new.lists r) (row v.items r) c.loop-place.place (λ x. has_at c.args.sets.now x r)
          (c.loop-place.invariant.1 r l)
          (c.in_ok-push_each.ensures r (omega (arith, c.push_each.auto.lists))
          ∙ ap (λ (z : List (Vec ℕ Global)). row z r ++ cond (has_at c.args.sets.now c.loop-place.place r) (c.loop-place.place ∷ []) [])
          c.deref_mut.ensures.value),
    )
