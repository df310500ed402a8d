use Rattle.std.proofs.Common.{◌≡◌, ◌-◌}
use Rattle.gmsh_text.specs.Parsing.{repeat}
use Rattle.gmsh_text.specs.Reading.{element_4}
use Rattle.gmsh_text.proofs.elements.read_alike.Given as goal

abbrev pub invariant-loop : goal.invariant-loop
invariant-loop l = repeat (element_4 l.kind l.group) l.count l.fn.elements l.fn.tokens ≡ repeat (element_4 l.kind l.group) (l.count - l.counter) l.elements l.tokens
