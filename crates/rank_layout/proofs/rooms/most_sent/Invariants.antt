use Rattle.rank_layout.specs.SendLaws.{IsMostSent}
use Rattle.rank_layout.proofs.rooms.most_sent.Given as goal

abbrev pub invariant-loop-from : goal.invariant-loop-from
invariant-loop-from l = IsMostSent l.mesh l.lists l.from l.ranks l.most
