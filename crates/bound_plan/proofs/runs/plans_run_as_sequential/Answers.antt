use Rattle.bound_plan.specs.Setups.{setup_of}
use Rattle.bound_plan.specs.Layouts.{layout_of}
use Rattle.bound_plan.proofs.runs.plans_run_as_sequential.Goals as goal

pub returns : goal.returns
returns c = λ b o n meshes p r f start steps accepted.
    c.flat_runs_as_sequential.ensures
    (setup_of b o meshes p) (c.setups_are_lawful.ensures b o n meshes p r) (c.setups_are_coloured.ensures b o n meshes p r.planned)
    (layout_of b o meshes p) (c.layouts_fit.ensures b o n meshes p r.planned) f start steps
    ((c.plans_are_by_place.ensures.accept b o n meshes p r.planned steps).0 accepted)
