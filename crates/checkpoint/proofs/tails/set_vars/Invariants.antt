use Rattle.std.proofs.Common.{◌≡◌, length, map, reverse}
use Rattle.bound_program.specs.Values.{var_of}
use Rattle.checkpoint.specs.Cut.{with_vars}
use Rattle.checkpoint.proofs.TailMade.{done}
use Rattle.checkpoint.proofs.tails.set_vars.Given as goal

abbrev pub invariant-loop-i : goal.invariant-loop-i
invariant-loop-i l = record {
  count : length l.vars.items ≡ length l.initial.vars.items;
  begun : done l.vars.items l.i (reverse l.values.items) ≡ with_vars (map var_of l.initial.vars.items) l.fn.values.items;
}
