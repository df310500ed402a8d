use Rattle.std.proofs.Common.{◌≡◌, ◌-◌, []}
use Rattle.gmsh_text.specs.Parsing.{repeat}
use Rattle.gmsh_text.specs.Sections.{entity_row}
use Rattle.gmsh_text.proofs.entities.read_group_list.Given as goal

abbrev pub invariant-loop : goal.invariant-loop
invariant-loop l = repeat entity_row l.count [] l.fn.tokens ≡ repeat entity_row (l.count - l.counter) l.groups.entries l.tokens
