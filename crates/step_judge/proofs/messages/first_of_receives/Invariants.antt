use Rattle.std.proofs.Common.{◌≡◌, None}
use Rattle.schedule_steps.specs.Outline.{Outline}
use Rattle.schedule_steps.specs.Standard.{below, receives_of}
use Rattle.schedule_steps.specs.Judged.{first_of}
use Rattle.step_judge.specs.Wanted.{wanted, AreMarksOf}
use Rattle.step_judge.proofs.messages.first_of_receives.Given as goal

abbrev pub invariant-loop-rank : goal.invariant-loop-rank
invariant-loop-rank l = record {
  none : (o : Outline) → AreMarksOf o l.marks → first_of (wanted l.marks l.later) (below (receives_of o l.item) l.rank) ≡ None;
}
