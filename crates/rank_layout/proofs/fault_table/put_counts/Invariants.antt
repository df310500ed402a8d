use Rattle.std.proofs.Common.{◌≡◌, map, take}
use Rattle.bound_program.specs.Values.{bound_of}
use Rattle.run_model.specs.Arguments.{arg_width}
use Rattle.rank_layout.proofs.fault_table.put_counts.Given as goal

abbrev pub invariant-loop-i : goal.invariant-loop-i
invariant-loop-i l = take l.i l.counts ≡ map (arg_width (bound_of l.bound)) (take l.i l.site.args.items)
