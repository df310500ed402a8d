use Rattle.std.proofs.Common.{◌≡◌, drop}
use Rattle.name_resolution.specs.First.{least_from}
use Rattle.name_resolution.specs.Kernels.{params_breaches, after_params}
use Rattle.name_resolution.proofs.kernels.declare_params.Given as goal

abbrev pub invariant-loop-number : goal.invariant-loop-number
invariant-loop-number l = record {
  first : least_from l.walk.first (params_breaches l.walk.own.entries l.number (drop l.number l.params)) ≡ least_from l.initial.walk.first (params_breaches l.initial.walk.own.entries 0 l.params);
  own : after_params l.walk.own.entries l.number (drop l.number l.params) ≡ after_params l.initial.walk.own.entries 0 l.params;
  next : l.walk.next ≡ l.initial.walk.next;
}
