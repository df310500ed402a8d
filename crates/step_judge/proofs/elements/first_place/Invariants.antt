use Rattle.schedule_steps.specs.Outline.{Outline}
use Rattle.step_judge.specs.Marked.{outline_of}
use Rattle.step_judge.specs.Wanted.{wanted, IsPlace, AreMarksOf, FirstBelow}
use Rattle.step_judge.proofs.elements.first_place.Given as goal

abbrev pub invariant-loop-place : goal.invariant-loop-place
invariant-loop-place l = record {
  place : IsPlace (outline_of l.marks) l.item l.rank l.best;
  first : (o : Outline) → AreMarksOf o l.marks → FirstBelow o (wanted l.marks l.later) l.item l.rank l.place l.best;
}
