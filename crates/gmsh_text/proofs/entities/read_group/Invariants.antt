use Rattle.std.proofs.Common.{◌≡◌, ◌-◌}
use Rattle.gmsh_text.specs.Parsing.{repeat}
use Rattle.gmsh_text.specs.Sections.{group, group_row}
use Rattle.gmsh_text.proofs.entities.read_group.Given as goal

abbrev pub invariant-loop : goal.invariant-loop
invariant-loop l = group l.fn.tokens ≡ repeat group_row (l.count - l.counter) l.group l.tokens
