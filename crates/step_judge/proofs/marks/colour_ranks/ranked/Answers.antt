use Rattle.std.proofs.Common.{◌≤◌, length, arith}
use Rattle.step_judge.proofs.marks.Rank.{ranked_from}
use Rattle.step_judge.proofs.marks.colour_ranks.ranked.Goals as goal
use Rattle.lemmas.proofs.Lists.{permuted_at}

pub returns : goal.returns
returns c =
    let past : length c.args.colours.now ≤ c.loop-colour.colour-index = c.loop-colour-test.false in
    ranked_from c.args.colours.now c.in_ok-sorted.sorted.items c.loop-colour.of.items (omega arith) c.in_ok-sorted.ensures.size
    (permuted_at c.args.colours.now c.in_ok-sorted.sorted.items c.in_ok-sorted.ensures.size c.in_ok-sorted.ensures.there)
    (λ i lt. c.loop-colour.invariant.points i (omega arith))
