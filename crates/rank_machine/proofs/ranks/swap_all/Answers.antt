use Rattle.std.proofs.Common.{◌<◌, ◌∙◌, ap₂, length, map, get_or, arith}
use Rattle.std.proofs.lemmas.List.{length-map}
use Rattle.rank_machine.specs.declared.ranks.RankPart.{RankPart}
use Rattle.rank_machine.specs.OnRanks.{lent}
use Rattle.rank_machine.proofs.OnRanks.{with_parts, lent_length, rows_next, parts_next, all_put}
use Rattle.rank_machine.proofs.ranks.swap_all.Goals as goal

pub loop-rank-preserved : goal.loop-rank-preserved
loop-rank-preserved c =
    let ms = c.args.memories.now in
    let ps = c.args.partials.now in
    let xs = c.args.parts.now in
    let r = c.loop-rank.rank in
    let h = c.loop-rank.invariant in
    let d = c.index-parts-rank.result in
    let em = length-map xs (λ (x : RankPart). x.memory) in
    let ep = length-map xs (λ (x : RankPart). x.partials) in
    let n = lent_length ms ps xs c.requires.memories c.requires.partials in
    let same = c.loop-rank.auto.parts in
    let lx : r < length xs = omega (arith, c.loop-rank-test.true, same) in
    record {
      memories = rows_next (λ (x : RankPart). x.memory) xs ms c.loop-rank.memories (lent ms ps xs) c.loop-rank.parts r d c.swap.new.x
          h.memories h.parts (omega (arith, lx, n)) lx (omega (arith, lx, c.requires.memories))
          c.swap.ensures.x_after;
      partials = rows_next (λ (x : RankPart). x.partials) xs ps c.loop-rank.partials (lent ms ps xs) c.loop-rank.parts r d
          c.swap-in-loop-rank.new.x h.partials h.parts (omega (arith, lx, n)) lx (omega (arith, lx, c.requires.partials))
          c.swap-in-loop-rank.ensures.x_after;
      parts = parts_next ms ps xs (map (λ (x : RankPart). x.memory) xs) (map (λ (x : RankPart). x.partials) xs) c.loop-rank.memories
          c.loop-rank.partials c.loop-rank.parts r d (with_parts (get_or c.loop-rank.parts r d) c.swap.new.y c.swap-in-loop-rank.new.y)
          c.index-memories-rank.result c.index-partials-rank.result h.parts h.memories h.partials lx c.requires.memories c.requires.partials em ep
          (ap₂ (λ a b. with_parts (get_or c.loop-rank.parts r d) a b) c.swap.ensures.y_after c.swap-in-loop-rank.ensures.y_after);
      within = omega (arith, lx);
    }

pub returns-clause-parts : goal.returns-clause-parts
returns-clause-parts c =
    let ms = c.args.memories.now in
    let ps = c.args.partials.now in
    let xs = c.args.parts.now in
    let n = lent_length ms ps xs c.requires.memories c.requires.partials in
    let over = c.loop-rank-test.false in
    let same = c.loop-rank.auto.parts in
    c.loop-rank.invariant.parts ∙ all_put (lent ms ps xs) xs c.loop-rank.rank (omega (arith, n, over, same)) (omega (arith, over, same))
