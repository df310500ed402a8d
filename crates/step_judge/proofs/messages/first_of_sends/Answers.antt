use Rattle.std.proofs.Common.{◌≡◌, ◌<◌, sym, ℕ, Bool, arith, subst, None}
use Rattle.schedule_steps.specs.declared.step.Step.{Step}
use Rattle.schedule_steps.specs.Standard.{below, sends_of}
use Rattle.schedule_steps.specs.Judged.{first_of}
use Rattle.step_judge.specs.Wanted.{wanted}
use Rattle.step_judge.proofs.Firsts.{below_some, below_none}
use Rattle.step_judge.proofs.messages.first_of_sends.Goals as goal

pub returns-in-Some : goal.returns-in-Some
returns-in-Some c o m =
    let i : ℕ = c.loop-from.from in
    let f : Step → Bool = wanted c.args.marks.now c.args.later in
    let same : c.args.marks.now.ranks ≡ o.ranks = m.alike.ranks in
    let lt : i < o.ranks = omega (arith, c.loop-from-test.true, c.ranks-from-end.ensures) in
    sym (below_some f (sends_of o c.args.item) i o.ranks c.in-Some.step lt (c.loop-from.invariant.none o m) (sym (c.in-Some.ensures o m)))

pub loop-from-preserved : goal.loop-from-preserved
loop-from-preserved c = record {
  none = λ o m.
      below_none (wanted c.args.marks.now c.args.later) (sends_of o c.args.item) c.loop-from.from (c.loop-from.invariant.none o m) (sym (c.in_default.ensures o m));
}

pub returns : goal.returns
returns c o m =
    let same : c.args.marks.now.ranks ≡ o.ranks = m.alike.ranks in
    let e : c.loop-from.from ≡ o.ranks = omega (arith, c.ranks-from-end.ensures, c.loop-from-test.false, c.loop-from.auto.from-end) in
    sym (subst (λ n. first_of (wanted c.args.marks.now c.args.later) (below (sends_of o c.args.item) n) ≡ None) e (c.loop-from.invariant.none o m))
