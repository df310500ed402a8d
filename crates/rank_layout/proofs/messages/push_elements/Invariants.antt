use Rattle.std.proofs.Common.{◌≡◌, ◌++◌, map, take, vec_capacity}
use Rattle.std.specs.Prelude.{slice_index}
use Rattle.rank_layout.specs.Messages.{element_span}
use Rattle.rank_layout.proofs.messages.push_elements.Given as goal

abbrev pub invariant-loop-local : goal.invariant-loop-local
invariant-loop-local l =
    (l.spans.items ≡ l.fn.spans.items ++ map (element_span (slice_index l.part.bases.items l.dat) l.dim) (take l.local-index l.locals)) × (vec_capacity l.spans ≡ vec_capacity l.fn.spans)
