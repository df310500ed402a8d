use Rattle.std.proofs.Common.{◌≡◌, ◌-◌}
use Rattle.gmsh_text.specs.Parsing.{repeat}
use Rattle.gmsh_text.specs.Numbers.{skip_integer}
use Rattle.gmsh_text.proofs.numbers.pass_integers.Given as goal

abbrev pub invariant-loop : goal.invariant-loop
invariant-loop l = repeat skip_integer l.count tt l.fn.tokens ≡ repeat skip_integer (l.count - l.counter) tt l.tokens
