use Rattle.std.proofs.Common.{◌≡◌, ◌<◌, ℕ, [], ◌∷◌, length, map}
use Rattle.std.specs.Prelude.{slice_index_or}
use Rattle.colouring.specs.declared.types.Colours.{Colours}
use Rattle.bound_program.specs.Values.{bound_of}
use Rattle.loop_plan.specs.Proper.{Separate, HasColours}
use Rattle.plan_cert.specs.Awaited.{ColoursOf, each_below}
use Rattle.plan_cert.specs.Certified.{lists_of}
use Rattle.plan_cert.specs.Judged.{FitsAmong}
use Rattle.plan_cert.proofs.sites.take_loop.Given as goal

abbrev pub invariant-loop-rank : goal.invariant-loop-rank
invariant-loop-rank l = record {
  judged : FitsAmong (bound_of l.bound) l.ranks l.size (each_below (λ r. ColoursOf l.site r ∷ []) l.rank) l.fn.lines l.lines (map lists_of l.colours.items);
  count : length l.colours.items ≡ l.rank;
  separate : (r : ℕ) (d : Colours) → r < l.rank → HasColours (bound_of l.bound) l.ranks Separate l.size l.site r (slice_index_or l.colours.items r d);
}
