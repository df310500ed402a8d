use Rattle.std.proofs.Common.{◌≡◌, ◌-◌}
use Rattle.gmsh_text.specs.Parsing.{repeat}
use Rattle.gmsh_text.specs.Sections.{skip_point}
use Rattle.gmsh_text.proofs.entities.pass_points.Given as goal

abbrev pub invariant-loop : goal.invariant-loop
invariant-loop l = repeat skip_point l.count tt l.fn.tokens ≡ repeat skip_point (l.count - l.counter) tt l.tokens
