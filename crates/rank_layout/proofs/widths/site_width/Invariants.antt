use Rattle.std.proofs.Common.{◌≡◌, ◌≤◌, ◌*◌, take, sum_by}
use Rattle.bound_program.specs.Values.{bound_of}
use Rattle.run_model.specs.Arguments.{arg_width}
use Rattle.rank_layout.proofs.widths.site_width.Given as goal

abbrev pub invariant-loop-arg : goal.invariant-loop-arg
invariant-loop-arg l = (l.width ≡ sum_by (arg_width (bound_of l.bound)) (take l.arg-index l.site.args.items)) × (l.width ≤ 64 * l.arg-index)
