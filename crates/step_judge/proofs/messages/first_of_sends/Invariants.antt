use Rattle.std.proofs.Common.{◌≡◌, None}
use Rattle.schedule_steps.specs.Outline.{Outline}
use Rattle.schedule_steps.specs.Standard.{below, sends_of}
use Rattle.schedule_steps.specs.Judged.{first_of}
use Rattle.step_judge.specs.Wanted.{wanted, AreMarksOf}
use Rattle.step_judge.proofs.messages.first_of_sends.Given as goal

abbrev pub invariant-loop-from : goal.invariant-loop-from
invariant-loop-from l = record {
  none : (o : Outline) → AreMarksOf o l.marks → first_of (wanted l.marks l.later) (below (sends_of o l.item) l.from) ≡ None;
}
