use Rattle.std.proofs.Common.{◌≡◌, ◌++◌, map, drop, Ok, Err}
use Rattle.kernel_model.specs.Meaning.{on_value}
use Rattle.kernel_model.specs.View.{rexpr_of}
use Rattle.bound_program.specs.HostExpr.{closed}
use Rattle.run_model.specs.Acts.{values_in}
use Rattle.run_model.proofs.gather.host_acts.acts.put_values.Given as goal

abbrev pub invariant-loop-e : goal.invariant-loop-e
invariant-loop-e l =
    values_in l.cells (map (closed l.told) (map rexpr_of l.all)) ≡ on_value Err (values_in l.cells (map (closed l.told) (map rexpr_of (drop l.e-index l.all)))) (λ zs. Ok (l.values.items ++ zs))
