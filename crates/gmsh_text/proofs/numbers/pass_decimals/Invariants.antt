use Rattle.std.proofs.Common.{◌≡◌, ◌-◌}
use Rattle.gmsh_text.specs.Parsing.{repeat}
use Rattle.gmsh_text.specs.Numbers.{skip_decimal}
use Rattle.gmsh_text.proofs.numbers.pass_decimals.Given as goal

abbrev pub invariant-loop : goal.invariant-loop
invariant-loop l = repeat skip_decimal l.count tt l.fn.tokens ≡ repeat skip_decimal (l.count - l.counter) tt l.tokens
