use Rattle.std.proofs.Common.{◌≡◌, ◌-◌}
use Rattle.gmsh_text.specs.Parsing.{repeat}
use Rattle.gmsh_text.specs.Reading.{elements_4, element_block}
use Rattle.gmsh_text.proofs.elements.read_blocks.Given as goal

abbrev pub invariant-loop : goal.invariant-loop
invariant-loop l = elements_4 l.entities l.fn.tokens ≡ repeat (element_block l.entities) (l.count - l.counter) l.elements l.tokens
