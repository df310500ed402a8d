use Rattle.std.proofs.Common.{◌≡◌, ◌≤◌, map, drop, [], ◌∷◌, ◌++◌}
use Rattle.bound_program.specs.Values.{site_of}
use Rattle.bound_program.specs.Trace.{number, turns, turns_left, events, all_events}
use Rattle.bound_program.specs.Unrolling.{asked_of, step_of, steps_of}
use Rattle.bound_program.proofs.trace.Leaves.{Becomes}
use Rattle.bound_program.proofs.trace.ToldValues.{Extends}
use Rattle.bound_program.proofs.trace.unroll.+unroll.Given as goal

-- What is to be done behind what was unrolled is what was to be done.
abbrev pub invariant-unroll-loop-inner : goal.invariant-unroll-loop-inner
invariant-unroll-loop-inner l = record {
  leaves : Becomes l.initial.out (all_events (map site_of l.sites) l.initial.told.items (steps_of l.inner-items)) l.out
      (all_events (map site_of l.sites) l.told.items (steps_of (drop l.inner-index l.inner-items)));
  told : Extends l.initial.told.items l.told.items;
  fewer : l.out.left ≤ l.initial.out.left;
}

abbrev pub invariant-unroll_turns-turns : goal.invariant-unroll_turns-turns
invariant-unroll_turns-turns l = record {
  leaves : Becomes l.initial.out (turns (λ j. number (l.initial.told.items ++ j ∷ []) (asked_of l.to))
      (λ j. events (map site_of l.sites) (l.initial.told.items ++ j ∷ []) (step_of l.body)) l.to.at (turns_left l.fn.first.value)
      l.fn.first.value) l.out (turns (λ j. number (l.initial.told.items ++ j ∷ []) (asked_of l.to))
      (λ j. events (map site_of l.sites) (l.initial.told.items ++ j ∷ []) (step_of l.body)) l.to.at (turns_left l.now.value) l.now.value);
  told : l.told.items ≡ l.initial.told.items;
  fewer : l.out.left ≤ l.initial.out.left;
}

abbrev pub decreases-unroll_turns-turns : goal.decreases-unroll_turns-turns
decreases-unroll_turns-turns l = l.out.left
