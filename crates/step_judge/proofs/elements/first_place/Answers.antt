use Rattle.std.proofs.Common.{◌≡◌, ℕ, arith, subst, length}
use Rattle.step_judge.specs.Item.{run_at}
use Rattle.step_judge.specs.Marked.{item_at}
use Rattle.step_judge.specs.Wanted.{wanted, FirstBelow}
use Rattle.step_judge.proofs.elements.first_place.Goals as goal

pub loop-place-preserved : goal.loop-place-preserved
loop-place-preserved c = record {
  place = c.with_place-best.ensures.place;
  first = λ o m. c.with_place-best.ensures.first o m (c.loop-place.invariant.first o m);
}

pub returns-clause-first : goal.returns-clause-first
returns-clause-first c o m =
    let n : ℕ = length (run_at (item_at c.args.marks.now c.args.item) c.args.rank).begun in
    let e : c.loop-place.place ≡ n = omega (arith, c.places-place-end.ensures, c.loop-place-test.false, c.loop-place.auto.place-end) in
    subst (λ z. FirstBelow o (wanted c.args.marks.now c.args.later) c.args.item c.args.rank z c.loop-place.best) e (c.loop-place.invariant.first o m)
