use Rattle.std.proofs.Common.{◌≡◌, None}
use Rattle.schedule_steps.specs.Outline.{Outline}
use Rattle.schedule_steps.specs.Standard.{below, item_steps}
use Rattle.schedule_steps.specs.Judged.{first_of}
use Rattle.step_judge.specs.Wanted.{wanted, AreMarksOf}
use Rattle.step_judge.proofs.search.first_wanted.Given as goal

abbrev pub invariant-loop-item : goal.invariant-loop-item
invariant-loop-item l = record {
  none : (o : Outline) → AreMarksOf o l.marks → first_of (wanted l.marks l.later) (below (item_steps o 1) l.item) ≡ None;
}
