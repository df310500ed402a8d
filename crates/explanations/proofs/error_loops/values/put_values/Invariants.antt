use Rattle.std.proofs.Common.{◌≡◌, ◌++◌, ◌+◌, drop}
use Rattle.bound_program.specs.Values.{bound_of}
use Rattle.explanations.specs.Values.{shown_values}
use Rattle.explanations.proofs.error_loops.values.put_values.Given as goal

abbrev pub invariant-loop-place : goal.invariant-loop-place
invariant-loop-place l =
    l.out.items ++ shown_values (bound_of l.bound) l.element (l.place + 1) (drop l.place l.site.args.items)
    ≡ l.fn.out.items ++ shown_values (bound_of l.bound) l.element 1 l.site.args.items
