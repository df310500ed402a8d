use Rattle.std.proofs.Common.{◌≡◌, ◌-◌}
use Rattle.gmsh_text.specs.Parsing.{repeat}
use Rattle.gmsh_text.specs.Reading.{point_row}
use Rattle.gmsh_text.proofs.nodes.read_points.Given as goal

abbrev pub invariant-loop : goal.invariant-loop
invariant-loop l = repeat (point_row l.extra) l.count l.fn.nodes l.fn.tokens ≡ repeat (point_row l.extra) (l.count - l.counter) l.nodes l.tokens
