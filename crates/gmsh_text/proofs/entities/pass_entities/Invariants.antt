use Rattle.std.proofs.Common.{◌≡◌, ◌-◌}
use Rattle.gmsh_text.specs.Parsing.{repeat}
use Rattle.gmsh_text.specs.Sections.{skip_entity}
use Rattle.gmsh_text.proofs.entities.pass_entities.Given as goal

abbrev pub invariant-loop : goal.invariant-loop
invariant-loop l = repeat skip_entity l.count tt l.fn.tokens ≡ repeat skip_entity (l.count - l.counter) tt l.tokens
