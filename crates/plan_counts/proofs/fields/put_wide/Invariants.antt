use Rattle.std.proofs.Common.{◌≡◌, ◌++◌, map, length}
use Rattle.std.specs.List.{flat_map}
use Rattle.plan_counts.specs.Table.{padded}
use Rattle.plan_counts.proofs.fields.put_wide.Given as goal

-- with those that are left it is the whole
abbrev pub invariant-loop-rest : goal.invariant-loop-rest
invariant-loop-rest l =
    l.out.items ++ flat_map padded (map (λ v. v.items) l.rest) ≡ l.fn.out.items ++ flat_map padded (map (λ v. v.items) l.fields)

abbrev pub decreases-loop-rest : goal.decreases-loop-rest
decreases-loop-rest l = length l.rest
