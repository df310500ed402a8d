use Rattle.std.proofs.Common.{◌∙◌, sym, ap, subst, ◌&&◌, length, map}
use Rattle.kernel_model.specs.Obeys.{Mode, no_counters}
use Rattle.kernel_model.specs.Refusals.{opposite, parameter_place}
use Rattle.kernel_model.specs.Walk.{none_covered, covered_after, all_below, is_op_write}
use Rattle.access_check.specs.Agree.{Agree}
use Rattle.access_check.specs.Modes.{model_of}
use Rattle.access_check.specs.Found.{found_of}
use Rattle.access_check.specs.States.{has_component, counters_of}
use Rattle.access_check.specs.Indices.{names_of, stmt_names}
use Rattle.access_check.proofs.Unnamed.{or_left}
use Rattle.access_check.proofs.Ends.{counters_fit, end_step, no_counter, no_component}
use Rattle.access_check.proofs.checking.found_in.Goals as goal

pub loop-a-preserved : goal.loop-a-preserved
loop-a-preserved c =
    let modes = map model_of c.args.modes.now in
    let body = c.args.kernel.now.body.statement in
    let after = has_component c.walk.new.covered in
    let known = no_counter (counters_of c.args.counters.now) c.requires.unknown in
    let none = no_component (has_component c.no_components-covered.result) c.no_components-covered.ensures in
    let agree : Agree modes (covered_after body no_counters none_covered) after =
    subst (λ x. Agree modes (covered_after body no_counters x) after) none
    (subst (λ x. Agree modes (covered_after body x (has_component c.no_components-covered.result)) after) known c.walk.ensures.covered) in
    end_step (parameter_place c.args.kernel.now) modes (covered_after body no_counters none_covered) after agree c.loop-a.a
    (length c.args.modes.now) c.lacks_some-broken.result c.place_of_parameter.result (found_of c.loop-a.found)
    (found_of c.with_rule-found.result) c.loop-a-test.true
    (c.lacks_some-broken.ensures ∙ ap (λ (m : Mode). is_op_write m.access && opposite (all_below (after c.loop-a.a) m.dim)) c.mode_of.ensures)
    c.place_of_parameter.ensures c.with_rule-found.ensures
    ∙ c.loop-a.invariant

pub walk-requires-clause-fits : goal.walk-requires-clause-fits
walk-requires-clause-fits c =
    let k = c.args.kernel.now in
    let st = k.body.statement in
    counters_fit k.params (length c.args.counters.now) c.requires.within.0 (names_of c.note_indices.new.named) st c.requires.within.1
    (λ j e. or_left (stmt_names st j) (names_of c.args.named.now j) (sym (c.note_indices.ensures j) ∙ e))
