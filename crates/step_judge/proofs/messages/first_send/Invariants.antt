use Rattle.std.proofs.Common.{◌≡◌, ◌∷◌, [], None}
use Rattle.schedule_steps.specs.Outline.{Outline}
use Rattle.schedule_steps.specs.declared.step.Step.TheVariants.{Send}
use Rattle.schedule_steps.specs.Standard.{below, where_true}
use Rattle.schedule_steps.specs.Judged.{first_of}
use Rattle.step_judge.specs.Wanted.{wanted, AreMarksOf}
use Rattle.step_judge.proofs.messages.first_send.Given as goal

abbrev pub invariant-loop-to : goal.invariant-loop-to
invariant-loop-to l = record {
  none : (o : Outline) → AreMarksOf o l.marks → first_of (wanted l.marks l.later) (below (λ r. where_true (o.sends l.item l.from r) (Send l.item l.from r ∷ [])) l.to) ≡ None;
}
