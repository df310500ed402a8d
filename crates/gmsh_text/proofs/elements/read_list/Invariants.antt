use Rattle.std.proofs.Common.{◌≡◌, ◌-◌}
use Rattle.gmsh_text.specs.Parsing.{repeat}
use Rattle.gmsh_text.specs.Reading.{elements_2, element_2}
use Rattle.gmsh_text.proofs.elements.read_list.Given as goal

abbrev pub invariant-loop : goal.invariant-loop
invariant-loop l = elements_2 l.fn.tokens ≡ repeat element_2 (l.count - l.counter) l.elements l.tokens
