use Rattle.std.proofs.Common.{◌≡◌, ◌++◌, take, vec_capacity}
use Rattle.rank_layout.specs.Messages.{imported_locals, spans_of}
use Rattle.rank_layout.proofs.messages.push_imports.Given as goal

abbrev pub invariant-loop-dat : goal.invariant-loop-dat
invariant-loop-dat l =
    (l.spans.items ≡ l.fn.spans.items ++ spans_of l.mesh l.part (λ t. imported_locals l.lists t l.pair.to l.pair.from) (take l.dat-index l.dats)) × (vec_capacity l.spans ≡ vec_capacity l.fn.spans)
