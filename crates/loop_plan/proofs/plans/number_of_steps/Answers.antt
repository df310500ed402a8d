use Rattle.std.proofs.Common.{◌∙◌, ℕ, ap, List}
use Rattle.std.specs.Prelude.{slice_index}
use Rattle.bound_program.specs.Values.{bound_of}
use Rattle.loop_plan.proofs.Ranges.{in_range}
use Rattle.loop_plan.proofs.Planning.{steps_are}
use Rattle.loop_plan.proofs.plans.number_of_steps.Goals as goal

pub count_steps-requires-clause-range : goal.count_steps-requires-clause-range
count_steps-requires-clause-range c = in_range (bound_of c.args.bound.now) c.requires.fits

pub returns-in-Some : goal.returns-in-Some
returns-in-Some c =
    c.in-Some.ensures.some
    ∙ steps_are (bound_of c.args.bound.now) c.args.ranks.now (in_range (bound_of c.args.bound.now) c.requires.fits) c.args.items.now c.deref.result.now c.requires.items
    (λ s l. ap (λ (z : List ℕ). slice_index z s) c.deref.ensures.value ∙ c.in_ok-totals.ensures.totals s l)
