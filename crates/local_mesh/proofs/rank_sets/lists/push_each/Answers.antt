use Rattle.std.proofs.Common.{◌≡◌, ◌<◌, ◌++◌, ◌∷◌, [], true, ◌≤◌, ap, ◌∙◌, arith, length}
use Rattle.local_mesh.specs.RankSet.{has}
use Rattle.lemmas.proofs.Rows.{row_at}
use Rattle.local_mesh.proofs.rank_sets.Appending.{push_step, rest_step}
use Rattle.local_mesh.proofs.rank_sets.lists.push_each.Goals as goal

pub loop-rank-preserved : goal.loop-rank-preserved
loop-rank-preserved c =
    let there = c.in-Some.ensures.some in
    let here : has c.args.ranks c.in-Some.rank ≡ true = c.loop-rank.invariant.0 c.in-Some.rank there.0 there.1 in
    let within : c.in-Some.rank < length c.loop-rank.lists = omega (arith, c.requires.ranks c.in-Some.rank there.0 here, c.loop-rank.auto.lists) in
    let few : length c.loop-rank.lists ≤ 64 = omega (arith, c.requires.few, c.loop-rank.auto.lists) in (
      rest_step c.args.ranks c.loop-rank.rest c.without-rest.result c.in-Some.rank c.without-rest.ensures.has c.loop-rank.invariant.0,
      λ r l. push_step c.loop-rank.lists c.args.lists.now c.in-Some.rank c.args.number c.push.new.self c.args.ranks c.loop-rank.rest c.without-rest.result few within there.1 here
          (c.in_ok-push.ensures.items ∙ ap (λ z. z ++ c.args.number ∷ []) (row_at c.loop-rank.lists c.in-Some.rank c.index-lists-rank.result within))
          c.without-rest.ensures.has (λ k m. c.loop-rank.invariant.1 k (omega (arith, c.loop-rank.auto.lists))) r (omega (arith, c.loop-rank.auto.lists)),
    )
