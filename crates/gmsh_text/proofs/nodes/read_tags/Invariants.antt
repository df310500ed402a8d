use Rattle.std.proofs.Common.{◌≡◌, ◌-◌}
use Rattle.gmsh_text.specs.Parsing.{repeat}
use Rattle.gmsh_text.specs.Reading.{tag_row}
use Rattle.gmsh_text.proofs.nodes.read_tags.Given as goal

abbrev pub invariant-loop : goal.invariant-loop
invariant-loop l = repeat tag_row l.count l.fn.nodes l.fn.tokens ≡ repeat tag_row (l.count - l.counter) l.nodes l.tokens
