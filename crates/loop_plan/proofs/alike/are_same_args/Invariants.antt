use Rattle.std.proofs.Common.{◌≡◌, take}
use Rattle.loop_plan.proofs.alike.are_same_args.Given as goal

abbrev pub invariant-loop-k : goal.invariant-loop-k
invariant-loop-k l = take l.k l.some ≡ take l.k l.others
