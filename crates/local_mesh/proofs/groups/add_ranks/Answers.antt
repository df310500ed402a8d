use Rattle.std.proofs.Common.{◌<◌, ◌||◌, ◌&&◌, ℕ, List, length, get_or, nat_eq, arith, sym, ap, ◌∙◌, subst}
use Rattle.lemmas.specs.Below.{row}
use Rattle.local_mesh.specs.RankSet.{has, has_at}
use Rattle.lemmas.proofs.Rows.{row_read}
use Rattle.local_mesh.specs.Standing.{stands}
use Rattle.local_mesh.proofs.Adding.{rank_more, all_added}
use Rattle.local_mesh.proofs.groups.add_ranks.Goals as goal

pub add_to_each-requires : goal.add_to_each-requires
add_to_each-requires c =
    let e = c.deref.ensures.value ∙ row_read c.args.lists.now c.loop-rank.rank c.index-lists-rank.result c.loop-rank-test.true c.index-lists-rank.is in
    subst (λ (z : List ℕ). (k : ℕ) → k < length z → get_or z k 0 < length c.loop-rank.sets) (sym e) (λ k l. rw c.loop-rank.auto.sets (c.requires.within c.loop-rank.rank k c.loop-rank-test.true l))

pub loop-rank-preserved : goal.loop-rank-preserved
loop-rank-preserved c = λ x r.
    let e = c.deref.ensures.value ∙ row_read c.args.lists.now c.loop-rank.rank c.index-lists-rank.result c.loop-rank-test.true c.index-lists-rank.is in
    rank_more (has_at c.args.sets.now x r) (has_at c.loop-rank.sets x r) (has_at c.add_to_each.new.sets x r) (has c.with.result r) r c.loop-rank.rank (λ z. stands (row c.args.lists.now z) x)
    (c.loop-rank.invariant x r)
    (c.with.ensures r ∙ ap (λ z. z || nat_eq r c.loop-rank.rank) (c.empty.ensures r))
    (c.add_to_each.ensures x r ∙ ap (λ (z : List ℕ). has_at c.loop-rank.sets x r || (has c.with.result r && stands z x)) e)

pub returns : goal.returns
returns c = λ x r. all_added c.args.lists.now (has_at c.args.sets.now x r) (has_at c.loop-rank.sets x r) r c.loop-rank.rank x (omega arith) (c.loop-rank.invariant x r)
