use Rattle.std.proofs.Common.{◌≡◌, ◌-◌, length, map, None}
use Rattle.kernel_model.specs.Obeys.{no_counters}
use Rattle.kernel_model.specs.Refusals.{parameter_place}
use Rattle.kernel_model.specs.Walk.{none_covered, covered_after, stmt_found, ends_found}
use Rattle.access_check.specs.Modes.{model_of}
use Rattle.access_check.specs.Found.{found_of}
use Rattle.access_check.proofs.checking.found_in.Given as goal

abbrev pub invariant-loop-a : goal.invariant-loop-a
invariant-loop-a l =
    ends_found (parameter_place l.kernel) (map model_of l.modes) (covered_after l.kernel.body.statement no_counters none_covered) l.a (length l.modes - l.a) (found_of l.found)
    ≡ ends_found (parameter_place l.kernel) (map model_of l.modes) (covered_after l.kernel.body.statement no_counters none_covered) 0
    (length l.modes) (stmt_found (map model_of l.modes) l.kernel.body.statement no_counters none_covered None)
