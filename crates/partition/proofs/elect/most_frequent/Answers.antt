use Rattle.std.proofs.Common.{arith}
use Rattle.partition.proofs.Votes.{elected_by}
use Rattle.partition.proofs.elect.most_frequent.Goals as goal

pub returns-clause-elected : goal.returns-clause-elected
returns-clause-elected c =
    elected_by c.args.ranks c.args.list.now c.count_ranks.new.votes c.elect-rank.result c.requires.below
    (λ q l. c.count_ranks.ensures.count q (omega (arith, l, c.requires.room)))
    c.elect-rank.ensures.stands c.elect-rank.ensures.most c.elect-rank.ensures.lowest
