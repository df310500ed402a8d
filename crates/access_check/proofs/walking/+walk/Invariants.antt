use Rattle.std.proofs.Common.{◌≡◌, ◌-◌, ℤ, pos, Option, length, map, slice_set, drop}
use Rattle.kernel_model.specs.Obeys.{with_counter}
use Rattle.kernel_model.specs.Walk.{stmt_found, covered_after, turns_found, turns_covered}
use Rattle.access_check.specs.Modes.{model_of}
use Rattle.access_check.specs.Found.{found_of}
use Rattle.access_check.specs.States.{has_component, counters_of}
use Rattle.access_check.specs.Agree.{Agree}
use Rattle.access_check.specs.Indices.{names_of}
use Rattle.access_check.specs.Rows.{list_found, list_covered, ListFits}
use Rattle.access_check.proofs.walking.+walk.Given as goal

abbrev pub invariant-walk-loop-inner : goal.invariant-walk-loop-inner
invariant-walk-loop-inner l = record {
  counters : l.counters ≡ l.initial.counters;
  fits : ListFits (length l.initial.counters) (names_of l.named) (drop l.inner-index l.inner-items);
  found : list_found (map model_of l.modes) (drop l.inner-index l.inner-items) (counters_of l.initial.counters) (has_component l.covered)
      (found_of l.found) ≡ stmt_found (map model_of l.modes) l.st (counters_of l.initial.counters) (has_component l.fn.covered)
      (found_of l.fn.found);
  covered : Agree (map model_of l.modes) (covered_after l.st (counters_of l.initial.counters) (has_component l.fn.covered))
      (list_covered (drop l.inner-index l.inner-items) (counters_of l.initial.counters) (has_component l.covered));
}

abbrev pub invariant-walk_turns-loop-i : goal.invariant-walk_turns-loop-i
invariant-walk_turns-loop-i l = record {
  cells : (v : Option ℤ) → slice_set l.counters l.counter v ≡ slice_set l.initial.counters l.counter v;
  long : length l.counters ≡ length l.initial.counters;
  found : turns_found (map model_of l.modes)
      (λ i d g. stmt_found (map model_of l.modes) l.body (with_counter (counters_of l.initial.counters) l.counter (pos i)) d g)
      (λ i d. covered_after l.body (with_counter (counters_of l.initial.counters) l.counter (pos i)) d) l.i (l.past - l.i)
      (has_component l.covered) (found_of l.found) ≡ turns_found (map model_of l.modes)
      (λ i d g. stmt_found (map model_of l.modes) l.body (with_counter (counters_of l.initial.counters) l.counter (pos i)) d g)
      (λ i d. covered_after l.body (with_counter (counters_of l.initial.counters) l.counter (pos i)) d) l.first (l.past - l.first)
      (has_component l.fn.covered) (found_of l.fn.found);
  covered : Agree (map model_of l.modes)
      (turns_covered (λ i d. covered_after l.body (with_counter (counters_of l.initial.counters) l.counter (pos i)) d) l.first
      (l.past - l.first) (has_component l.fn.covered))
      (turns_covered (λ i d. covered_after l.body (with_counter (counters_of l.initial.counters) l.counter (pos i)) d) l.i (l.past - l.i)
      (has_component l.covered));
}
