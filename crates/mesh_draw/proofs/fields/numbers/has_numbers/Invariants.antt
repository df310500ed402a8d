use Rattle.std.proofs.Common.{◌≡◌, ◌-◌}
use Rattle.op_num.specs.CutLines.{words}
use Rattle.mesh_draw.proofs.fields.NumberLines.{are_numbers}
use Rattle.mesh_draw.proofs.fields.numbers.has_numbers.Given as goal

-- the words that are left decide
abbrev pub invariant-loop : goal.invariant-loop
invariant-loop l = are_numbers (l.dim - l.counter) l.words ≡ are_numbers l.dim (words l.line)
