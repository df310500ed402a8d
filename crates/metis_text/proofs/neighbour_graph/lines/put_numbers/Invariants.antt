use Rattle.std.proofs.Common.{◌≡◌, ◌++◌, map, length}
use Rattle.op_num.specs.Lines.{line_of}
use Rattle.metis_text.specs.Graph.{vertex}
use Rattle.metis_text.proofs.neighbour_graph.lines.put_numbers.Given as goal

-- with the line of those that are left it is the whole
abbrev pub invariant-loop-rest : goal.invariant-loop-rest
invariant-loop-rest l = l.out.items ++ line_of (map vertex l.rest) ≡ l.fn.out.items ++ line_of (map vertex l.numbers)

abbrev pub decreases-loop-rest : goal.decreases-loop-rest
decreases-loop-rest l = length l.rest
