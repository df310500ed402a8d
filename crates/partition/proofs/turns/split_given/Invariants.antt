use Rattle.std.proofs.Common.{◌≡◌, ℕ, Option, Vec, map, is_some}
use Rattle.std.specs.declared.alloc.Global.{Global}
use Rattle.partition.specs.Derive.{given_list}
use Rattle.partition.proofs.turns.split_given.Given as goal

abbrev pub invariant-loop-list : goal.invariant-loop-list
invariant-loop-list l = (l.sets.items ≡ map given_list l.yielded) × (l.known.items ≡ map (λ (v : Option (Vec ℕ Global)). is_some v) l.yielded)
