use Rattle.std.proofs.Common.{◌≡◌, ◌∙◌, ℕ, List, length, sum, ap, sym}
use Rattle.std.specs.Prelude.{slice_index}
use Rattle.bound_program.specs.Values.{bound_of}
use Rattle.bound_program.specs.Fits.{site_at}
use Rattle.loop_plan.specs.Counted.{sum_below}
use Rattle.loop_plan.specs.Places.{places_of}
use Rattle.loop_plan.proofs.StepsCounted.{same_sum}
use Rattle.loop_plan.proofs.StepTotals.{sum_of_list}
use Rattle.loop_plan.proofs.places.place_count.Goals as goal

pub returns : goal.returns
returns c =
    let v : List ℕ = c.in_ok-places.places.items in
    let e : c.deref.result.now ≡ v = c.deref.ensures.value in
    c.total.ensures
    ∙ (ap sum e
    ∙ (sym (sum_of_list v)
    ∙ (ap (sum_below (slice_index v)) c.in_ok-places.ensures.count
    ∙ same_sum (slice_index v) (places_of c.args.ranks.now (site_at (bound_of c.args.bound.now) c.args.site)) (length c.args.ranks.now) c.in_ok-places.ensures.places)))
