use Rattle.std.proofs.Common.{◌≡◌, map, take}
use Rattle.bound_program.specs.Values.{item_of}
use Rattle.loop_bind.specs.Weights.{weight_of_all}
use Rattle.loop_bind.proofs.weights.weight_of_all.Given as goal

abbrev pub invariant-loop-item : goal.invariant-loop-item
invariant-loop-item l = l.sum ≡ weight_of_all l.mesh (map item_of (take l.item-index l.items))
