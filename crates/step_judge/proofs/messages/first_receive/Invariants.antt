use Rattle.std.proofs.Common.{◌≡◌, ◌∷◌, [], None}
use Rattle.schedule_steps.specs.Outline.{Outline}
use Rattle.schedule_steps.specs.declared.step.Step.TheVariants.{Recv}
use Rattle.schedule_steps.specs.Standard.{below, where_true}
use Rattle.schedule_steps.specs.Judged.{first_of}
use Rattle.step_judge.specs.Wanted.{wanted, AreMarksOf}
use Rattle.step_judge.proofs.messages.first_receive.Given as goal

abbrev pub invariant-loop-from : goal.invariant-loop-from
invariant-loop-from l = record {
  none : (o : Outline) → AreMarksOf o l.marks → first_of (wanted l.marks l.later) (below (λ s. where_true (o.sends l.item s l.rank) (Recv l.item l.rank s ∷ [])) l.from) ≡ None;
}
