use Rattle.bound_plan.specs.Laws.{PlansAreByPlace}
use Rattle.bound_plan.proofs.ByPlace.{plans_are_by_place, plans_accept_by_place}
use Rattle.bound_plan.proofs.steps.plans_are_by_place.Goals as goal

pub returns : goal.returns
returns c =
    let alike : PlansAreByPlace = plans_are_by_place c.meshes_and_items.ensures.numbers c.meshes_and_items.ensures.items in
    record { alike = alike; accept = plans_accept_by_place c.meshes_and_items.ensures.outlines alike }
