use Rattle.std.proofs.Common.{◌≡◌, ◌<◌, sym, ℕ, Bool, arith, subst, None}
use Rattle.schedule_steps.specs.declared.step.Step.{Step}
use Rattle.schedule_steps.specs.Standard.{below, element_steps}
use Rattle.schedule_steps.specs.Judged.{first_of}
use Rattle.step_judge.specs.Wanted.{wanted}
use Rattle.step_judge.proofs.Firsts.{below_some, below_none}
use Rattle.step_judge.proofs.search.first_element.Goals as goal

pub returns-in-Some : goal.returns-in-Some
returns-in-Some c o m =
    let i : ℕ = c.loop-rank.rank in
    let f : Step → Bool = wanted c.args.marks.now c.args.later in
    let same : c.args.marks.now.ranks ≡ o.ranks = m.alike.ranks in
    let lt : i < o.ranks = omega (arith, c.loop-rank-test.true, c.ranks-rank-end.ensures) in
    sym (below_some f (element_steps o 1 c.args.item) i o.ranks c.in-Some.step lt (c.loop-rank.invariant.none o m) (sym (c.in-Some.ensures o m)))

pub loop-rank-preserved : goal.loop-rank-preserved
loop-rank-preserved c = record {
  none = λ o m.
      below_none (wanted c.args.marks.now c.args.later) (element_steps o 1 c.args.item) c.loop-rank.rank (c.loop-rank.invariant.none o m) (sym (c.in_default.ensures o m));
}

pub returns : goal.returns
returns c o m =
    let same : c.args.marks.now.ranks ≡ o.ranks = m.alike.ranks in
    let e : c.loop-rank.rank ≡ o.ranks = omega (arith, c.ranks-rank-end.ensures, c.loop-rank-test.false, c.loop-rank.auto.rank-end) in
    sym (subst (λ n. first_of (wanted c.args.marks.now c.args.later) (below (element_steps o 1 c.args.item) n) ≡ None) e (c.loop-rank.invariant.none o m))
