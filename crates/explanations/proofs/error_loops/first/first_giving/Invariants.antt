use Rattle.std.proofs.Common.{All, None, map, take}
use Rattle.explanations.specs.Calls.{call_of}
use Rattle.explanations.specs.First.{IsGiving}
use Rattle.explanations.proofs.error_loops.first.first_giving.Given as goal

abbrev pub invariant-loop-call : goal.invariant-loop-call
invariant-loop-call l = All (λ e. IsGiving l.types.kernels.items l.judgement e None) (map call_of (take l.call-index l.calls))
