use Rattle.rank_layout.specs.SendLaws.{pair_spans, IsMost}
use Rattle.rank_layout.proofs.rooms.most_from.Given as goal

abbrev pub invariant-loop-to : goal.invariant-loop-to
invariant-loop-to l = IsMost (pair_spans l.mesh l.lists l.from) l.to l.most
