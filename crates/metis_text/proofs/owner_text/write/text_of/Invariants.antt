use Rattle.std.proofs.Common.{◌≡◌, ◌++◌, drop, codes}
use Rattle.op_num.specs.Lines.{text_of_lines}
use Rattle.metis_text.specs.Written.{lines_from}
use Rattle.metis_text.proofs.owner_text.write.text_of.Given as goal

-- with the lines of the sets that are left it is the whole
abbrev pub invariant-loop-set : goal.invariant-loop-set
invariant-loop-set l =
    l.out.items ++ text_of_lines (lines_from l.mesh l.set (drop l.set l.owners.sets.items))
    ≡ codes "op2part 1\n" ++ text_of_lines (lines_from l.mesh 0 l.owners.sets.items)
