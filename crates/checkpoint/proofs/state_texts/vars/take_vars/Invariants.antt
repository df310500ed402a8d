use Rattle.std.proofs.Common.{◌≡◌, ℕ, length, map, take}
use Rattle.bound_program.specs.Values.{BoundValue, var_of}
use Rattle.checkpoint.specs.Cut.{starts}
use Rattle.checkpoint.specs.Reading.{awaited_vars}
use Rattle.checkpoint.specs.Judged.{FitsAmong}
use Rattle.checkpoint.proofs.state_texts.VarLines.{flat}
use Rattle.checkpoint.proofs.state_texts.vars.take_vars.Given as goal

abbrev pub invariant-loop-var : goal.invariant-loop-var
invariant-loop-var l = record {
  shape : map length l.told.items ≡ map length (starts (map var_of (take l.var-index l.vars)));
  fits : (b : BoundValue) (k : ℕ) → FitsAmong b k (awaited_vars 0 (starts (map var_of (take l.var-index l.vars)))) l.fn.lines l.lines (flat l.told.items);
}
