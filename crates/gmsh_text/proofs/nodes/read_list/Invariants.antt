use Rattle.std.proofs.Common.{◌≡◌, ◌-◌}
use Rattle.gmsh_text.specs.Parsing.{repeat}
use Rattle.gmsh_text.specs.Reading.{nodes_2, node}
use Rattle.gmsh_text.proofs.nodes.read_list.Given as goal

abbrev pub invariant-loop : goal.invariant-loop
invariant-loop l = nodes_2 l.fn.tokens ≡ repeat node (l.count - l.counter) l.nodes l.tokens
