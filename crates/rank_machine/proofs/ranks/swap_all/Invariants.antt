use Rattle.std.proofs.Common.{◌≡◌, ◌-◌, ◌≤◌, ◌++◌, length, map, take, drop}
use Rattle.rank_machine.specs.declared.ranks.RankPart.{RankPart}
use Rattle.rank_machine.specs.OnRanks.{lent}
use Rattle.rank_machine.proofs.ranks.swap_all.Given as goal

abbrev pub invariant-loop-rank : goal.invariant-loop-rank
invariant-loop-rank l = record {
  memories : l.memories ≡ take l.rank (map (λ (x : RankPart). x.memory) l.initial.parts) ++ drop l.rank l.initial.memories;
  partials : l.partials ≡ take l.rank (map (λ (x : RankPart). x.partials) l.initial.parts) ++ drop l.rank l.initial.partials;
  parts : l.parts ≡ take l.rank (lent l.initial.memories l.initial.partials l.initial.parts) ++ drop l.rank l.initial.parts;
  within : l.rank ≤ length l.initial.parts;
}

abbrev pub decreases-loop-rank : goal.decreases-loop-rank
decreases-loop-rank l = length l.initial.parts - l.rank
