use Rattle.std.proofs.Common.{◌≡◌, ◌<◌, ◌^◌, length, map, ap, sym, subst, ◌∙◌, arith}
use Rattle.kernel_code.specs.Codes.{AreCodesOf}
use Rattle.bound_program.specs.Values.{bound_of, var_of}
use Rattle.run_model.specs.Arguments.{modes_of}
use Rattle.run_model.specs.Laws.{site_of}
use Rattle.run_model.specs.Programs.{item_at, loop_of}
use Rattle.run_model.specs.Ranges.{AllObey}
use Rattle.loop_plan.specs.Values.{plan_of}
use Rattle.loop_plan.specs.Planned.{PlannedValue}
use Rattle.rank_layout.specs.First.{first_variables}
use Rattle.rank_layout.specs.Made.{row_of}
use Rattle.rank_program.specs.Constants.{Apart}
use Rattle.rank_program.proofs.Runnables.{has_lists}
use Rattle.rank_program.proofs.Windowed.{windowed}
use Rattle.rank_program.proofs.runnable.Runnable.new.Goals as goal

pub most_spans-spans-requires-clause-few : goal.most_spans-spans-requires-clause-few
most_spans-spans-requires-clause-few c =
    let v : PlannedValue = record { bound = c.planned.inside.bound.now; distribution = c.planned.inside.distribution; plan = plan_of c.planned.inside.plan } in
    let lists = has_lists v c.args.planned.now c.as_slice-meshes.result.now c.args.lists.now c.planned.view_is c.as_slice-meshes.ensures.value c.planned.invariant c.requires.lists in
    c.exports_are_few.ensures (bound_of v.bound) v.distribution.owners c.planned.invariant.numbers c.as_slice-meshes.result.now v.plan v.distribution.halos c.args.lists.now lists

pub invariant_of-result : goal.invariant_of-result
invariant_of-result c =
    let v : PlannedValue = record { bound = c.planned.inside.bound.now; distribution = c.planned.inside.distribution; plan = plan_of c.planned.inside.plan } in
    let b = bound_of v.bound in
    let o = v.distribution.owners in
    let n = c.planned.invariant.numbers in
    let ms = c.as_slice-meshes.result.now in
    let lists = has_lists v c.args.planned.now ms c.args.lists.now c.planned.view_is c.as_slice-meshes.ensures.value c.planned.invariant c.requires.lists in
    let obey = subst (λ (z : PlannedValue). AllObey (bound_of z.bound)) (sym c.planned.view_is) c.requires.obey in
    let made = c.in_ok-tables.ensures c.args.lists.now
    (c.rooms_stand.ensures b o n ms v.plan v.distribution.halos c.args.lists.now lists c.most_spans-spans.result
    c.most_spans-spans.ensures.elements c.most_spans-spans.ensures.messages) in
    record {
      sound = record {
        numbers = n;
        halos = v.distribution.halos;
        planned = lists.planned;
        lists = lists;
        made = made;
        codes = subst (λ (z : PlannedValue). AreCodesOf (bound_of z.bound).kernels c.args.codes.now) (sym c.planned.view_is) c.requires.codes;
        obey = obey;
        keeps = λ k f lt at consts spans ts inside only.
            c.unwritten_stay.ensures.obeying f (modes_of b (site_of b k)) consts spans ts inside (obey (loop_of (item_at b k)) f lt at) only;
        room = c.room_for.ensures;
        layout = c.layouts_fit.ensures b o n ms v.plan lists.planned;
        indexed = c.tables_are_indexed.ensures b o n ms v.plan lists.planned;
        windowed = windowed b o n ms v.plan lists.planned c.args.lists.now c.in_ok-tables.tables made c.steps_stand.ensures c.element_windows_stand.ensures;
        variables = c.variables_stand.ensures b;
      };
      leave = λ s stays.
          subst (λ l. Apart (row_of c.in_ok-tables.tables.indices.items s) l) c.deref-2.ensures.value
          (subst (λ rows. Apart (row_of rows s) c.deref-2.result.now) c.deref-3.ensures.value (c.in_ok-constants_stay.ensures s stays));
    }

pub returns : goal.returns
returns c = record {
  of_bound = ap (λ (z : PlannedValue). bound_of z.bound) c.planned.view_is;
  of_owners = ap (λ (z : PlannedValue). z.distribution.owners) c.planned.view_is;
  of_meshes = c.as_slice-meshes.ensures.value ∙ ap (λ (z : PlannedValue). z.distribution.ranks.items) c.planned.view_is;
  of_plan = ap (λ (z : PlannedValue). z.plan) c.planned.view_is;
}

pub new-requires-clause-few : goal.new-requires-clause-few
new-requires-clause-few c =
    let p = c.planned.inside in
    let v : PlannedValue = record { bound = p.bound.now; distribution = p.distribution; plan = plan_of p.plan } in
    let lists = has_lists v c.args.planned.now c.as_slice-meshes.result.now c.args.lists.now c.planned.view_is c.as_slice-meshes.ensures.value c.planned.invariant c.requires.lists in
    let first = c.first_cells_stand.ensures.stand (bound_of v.bound) v.distribution.owners c.planned.invariant.numbers c.as_slice-meshes.result.now v.plan lists.planned in
    let count : c.in_ok-cells.cells ≡ length (first_variables (bound_of v.bound).vars) =
    c.in_ok-cells.ensures ∙ ap (λ l. length (first_variables (map var_of l))) c.deref.ensures.value in
    omega (arith, first.count, count)
