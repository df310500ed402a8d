use Rattle.std.proofs.Common.{◌≡◌, ◌-◌}
use Rattle.gmsh_text.specs.Parsing.{repeat}
use Rattle.gmsh_text.specs.Reading.{nodes_4, node_block}
use Rattle.gmsh_text.proofs.nodes.read_blocks.Given as goal

abbrev pub invariant-loop : goal.invariant-loop
invariant-loop l = nodes_4 l.fn.tokens ≡ repeat node_block (l.count - l.counter) l.nodes l.tokens
