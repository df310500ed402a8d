use Rattle.std.proofs.Common.{◌<◌, sym, subst, ◌∙◌}
use Rattle.mesh_decl.specs.Mesh.{set_count}
use Rattle.bound_program.specs.Values.{bound_of}
use Rattle.loop_plan.specs.Values.{plan_of}
use Rattle.loop_plan.specs.Planned.{PlannedValue}
use Rattle.cell_numbers.specs.Shown.{AreNumbers}
use Rattle.cell_numbers.proofs.OnRanks.{on_ranks}
use Rattle.cell_numbers.proofs.ShownNumbers.{owners_shown, colours_shown}
use Rattle.cell_numbers.proofs.shown.numbers_of.Goals as goal

pub returns-in_ok-from_slice-in-Owners-clause-ok : goal.returns-in_ok-from_slice-in-Owners-clause-ok
returns-in_ok-from_slice-in-Owners-clause-ok c =
    let numbers = c.in_ok-from_slice-in-Owners.field-0.items in
    subst (λ (v : PlannedValue). AreNumbers (bound_of v.bound) v.distribution v.plan c.args.shown c.args.set numbers) c.planned.view_is
    (owners_shown (bound_of c.planned.inside.bound.now) c.planned.inside.distribution (plan_of c.planned.inside.plan) c.args.shown c.args.set
    numbers c.in-Owners.is c.planned.invariant.distributed.are_owners
    (subst (λ (v : PlannedValue). c.args.set < set_count v.bound.mesh) (sym c.planned.view_is) c.requires.set)
    (c.in_ok-from_slice-in-Owners.ensures.items ∙ c.of_set.ensures))

pub returns-in_ok-block_colours-in-Colours-clause-ok : goal.returns-in_ok-block_colours-in-Colours-clause-ok
returns-in_ok-block_colours-in-Colours-clause-ok c =
    let numbers = c.in_ok-block_colours-in-Colours.field-0.items in
    subst (λ (v : PlannedValue). AreNumbers (bound_of v.bound) v.distribution v.plan c.args.shown c.args.set numbers) c.planned.view_is
    (colours_shown (bound_of c.planned.inside.bound.now) c.planned.inside.distribution (plan_of c.planned.inside.plan) c.args.shown c.args.set
    numbers c.in-Colours.site c.in-Colours.is c.in_ok-judge_loop-in-Colours.ensures.runs c.in_ok-judge_loop-in-Colours.ensures.over
    c.in_ok-block_colours-in-Colours.ensures.count c.in_ok-block_colours-in-Colours.ensures.colours)

pub block_colours-requires-clause-planned : goal.block_colours-requires-clause-planned
block_colours-requires-clause-planned c = on_ranks _ c.planned.invariant
