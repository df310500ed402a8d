use Rattle.std.proofs.Common.{ap, ◌∙◌, ◌∷◌, ◌++◌}
use Rattle.std.specs.Prelude.{not}
use Rattle.schedule_steps.specs.declared.step.Step.TheVariants.{End}
use Rattle.schedule_model.specs.Layout.{by_place}
use Rattle.schedule_model.specs.Flat.{flat_from}
use Rattle.rank_state.specs.Groups.{begins}
use Rattle.rank_state.proofs.Ready.{carries, all_shut, stays_open}
use Rattle.rank_state.proofs.Groups.{planned_from, distinct_from, group_closed}
use Rattle.rank_state.proofs.laws.steps_are_ready.Goals as goal

pub returns-clause-recv : goal.returns-clause-recv
returns-clause-recv g c p l t all acc start starts front left k r s e st h spans i =
    let ks = c.accepted_steps_fit.ensures.receives (by_place p l) all acc front left k r s e in
    carries p l t st (flat_from p l front start) h k r s spans i ks.0 (c.flat_goes_by_steps.ensures.mail p l start starts front h.stop s r ∙ ks.1)

pub returns-clause-begin : goal.returns-clause-begin
returns-clause-begin g c p l t all acc start starts front left k r places e st h = (
  planned_from (by_place p l) all acc left k r front places e,
  all_shut p l t st (flat_from p l front start) h front r
      (λ j x i. c.flat_goes_by_steps.ensures.frames p l start starts all acc front (begins k r places ++ left) e h.stop j r x ∙ ap not i)
      places (group_closed (by_place p l) all acc left k r (c.accepted_steps_fit.ensures.begins (by_place p l) all acc) front places e),
  distinct_from (by_place p l) all acc left k r front places e,
)

pub returns-clause-end : goal.returns-clause-end
returns-clause-end g c p l t all acc start starts front left k r x e st h =
    stays_open p l t st (flat_from p l front start) h k r x
    (c.flat_goes_by_steps.ensures.frames p l start starts all acc front (End k r x ∷ left) e h.stop k r x ∙ ap not (c.accepted_steps_fit.ensures.ends (by_place p l) all acc front left k r x e).0)
