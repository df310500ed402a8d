use Rattle.std.proofs.Common.{◌≡◌, ◌≤◌, ◌-◌, ℕ, [], length, Vec, Global}
use Rattle.std.specs.List.{AllWithin}
use Rattle.rank_exec.proofs.round_room.clear_all.Given as goal

abbrev pub invariant-loop-rank : goal.invariant-loop-rank
invariant-loop-rank l = record {
  empty : AllWithin (λ (v : Vec ℕ Global). v.items ≡ []) l.lists 0 l.rank;
  count : length l.lists ≡ length l.initial.lists;
  within : l.rank ≤ length l.lists;
}

abbrev pub decreases-loop-rank : goal.decreases-loop-rank
decreases-loop-rank l = length l.lists - l.rank
