use Rattle.std.proofs.Common.{◌≡◌, ◌-◌, ◌∷◌, ◌++◌, length}
use lib.ListN.{replicate}
use Rattle.plan_counts.proofs.fields.put_padded.Given as goal

-- with the blanks that are left and the field it is the whole
abbrev pub invariant-loop-width : goal.invariant-loop-width
invariant-loop-width l =
    l.out.items ++ (replicate (10 - l.width) 32 ++ l.field) ≡ l.fn.out.items ++ (32 ∷ (replicate (10 - length l.field) 32 ++ l.field))

abbrev pub decreases-loop-width : goal.decreases-loop-width
decreases-loop-width l = 10 - l.width
