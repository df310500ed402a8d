use Rattle.std.proofs.Common.{◌≡◌, ◌++◌, map, length}
use Rattle.op_num.specs.Lines.{line_of}
use Rattle.plan_counts.proofs.fields.put_plain.Given as goal

-- with the line of those that are left it is the whole
abbrev pub invariant-loop-rest : goal.invariant-loop-rest
invariant-loop-rest l = l.out.items ++ line_of (map (λ v. v.items) l.rest) ≡ l.fn.out.items ++ line_of (map (λ v. v.items) l.fields)

abbrev pub decreases-loop-rest : goal.decreases-loop-rest
decreases-loop-rest l = length l.rest
