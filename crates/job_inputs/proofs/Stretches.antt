-- The kernels of a part of a program keep to their accesses.
use Rattle.std.proofs.Common.{Ok, subst}
use Rattle.std.proofs.lemmas.List.{get_or_default}
use Rattle.bound_program.specs.Values.{BoundValue, no_site}
use Rattle.run_model.specs.Ranges.{AllObey}
use Rattle.checkpoint.specs.Cut.{StateValue, HasShape, tail}
use Rattle.checkpoint.specs.Laws.{TailsObey}
use Rattle.answers.specs.Judgements.{AccessesAre, SiteObeys}

-- all loops by number, and all in order
all_obey : (b : BoundValue) → AccessesAre b (Ok tt) → AllObey b
all_obey b h n f lt is = h n no_site lt f is

in_order : (b : BoundValue) → AllObey b → AccessesAre b (Ok tt)
in_order b h n d lt = subst (SiteObeys b) (get_or_default b.sites n no_site d lt) (λ f is. h n f lt is)

-- a tail keeps to the accesses of its arguments where the program does
pub tail_obeys : TailsObey → (b : BoundValue) (s : StateValue) → HasShape b s → AccessesAre b (Ok tt) → AccessesAre (tail b s) (Ok tt)
tail_obeys law b s shape h = in_order (tail b s) (law b s shape (all_obey b h))
