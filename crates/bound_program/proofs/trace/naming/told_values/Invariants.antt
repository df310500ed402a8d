use Rattle.std.proofs.Common.{◌≡◌, map, pos, slice_index_or, take}
use Rattle.bound_program.proofs.trace.naming.told_values.Given as goal

abbrev pub invariant-loop-name : goal.invariant-loop-name
invariant-loop-name l = l.values.items ≡ map (λ n. slice_index_or l.told n (pos 0)) (take l.name-index l.names)
