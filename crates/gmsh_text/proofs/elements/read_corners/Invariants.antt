use Rattle.std.proofs.Common.{◌≡◌, ◌-◌}
use Rattle.gmsh_text.specs.Parsing.{repeat}
use Rattle.gmsh_text.specs.Values.{node_count}
use Rattle.gmsh_text.specs.Reading.{corner}
use Rattle.gmsh_text.proofs.elements.read_corners.Given as goal

abbrev pub invariant-loop : goal.invariant-loop
invariant-loop l = repeat (corner l.kind) (node_count l.kind) l.fn.elements l.fn.tokens ≡ repeat (corner l.kind) (node_count l.kind - l.counter) l.elements l.tokens
