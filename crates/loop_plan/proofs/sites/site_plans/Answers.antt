use Rattle.std.proofs.Common.{◌≡◌, ◌∙◌, ℕ, Bool, false, ap, sym, List}
use Rattle.std.specs.Prelude.{slice_index_or}
use Rattle.bound_program.specs.Values.{bound_of}
use Rattle.loop_plan.specs.SharedPlans.{entries_of}
use Rattle.loop_plan.specs.Places.{runs_free}
use Rattle.loop_plan.specs.SitePlans.{IsLeastPlan}
use Rattle.loop_plan.proofs.SitePlanning.{plans_kept}
use Rattle.loop_plan.proofs.sites.site_plans.Goals as goal
use Rattle.loop_plan.proofs.sites.site_plans.Goals.{then-is_running+in_ok-add_plan, else-is_running}

pub add_plan-requires-clause-run : goal.add_plan-requires-clause-run
add_plan-requires-clause-run c =
    sym (c.in_ok-runs.ensures.runs c.loop-site.site) ∙ (ap (λ (z : List Bool). slice_index_or z c.loop-site.site false) (sym c.deref.ensures.value) ∙ (sym c.is_running.ensures ∙ c.if-is_running.true))

pub loop-site-preserved : goal.loop-site-preserved
loop-site-preserved c =
    let b = bound_of c.args.bound.now in
    let meshes = c.args.ranks.now in
    let n : ℕ = c.loop-site.site in
    elim c.if-is_running.branch [
      | then-is_running+in_ok-add_plan w ↦ rw w.making-is w.in_ok-add_plan.ensures
      | else-is_running w ↦ (
          let idle : runs_free b n ≡ false =
          sym (c.in_ok-runs.ensures.runs n) ∙ (ap (λ (z : List Bool). slice_index_or z n false) (sym c.deref.ensures.value) ∙ (sym c.is_running.ensures ∙ w.if-is_running.false)) in
          rw w.making-is (record {
            count = c.loop-site.invariant.count;
            each = c.loop-site.invariant.each;
            plans = plans_kept b (IsLeastPlan b meshes c.args.block) n (entries_of c.loop-site.making.plans) idle c.loop-site.invariant.plans;
          }))
    ]
