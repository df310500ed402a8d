use Rattle.std.proofs.Common.{◌≡◌, ◌<◌, sym, ℕ, Bool, arith, subst, None, length}
use Rattle.schedule_steps.specs.declared.step.Step.{Step}
use Rattle.schedule_steps.specs.Standard.{below, item_steps}
use Rattle.schedule_steps.specs.Judged.{first_of}
use Rattle.step_judge.specs.Wanted.{wanted}
use Rattle.step_judge.proofs.Firsts.{below_some, below_none}
use Rattle.step_judge.proofs.search.first_wanted.Goals as goal

pub returns-in-Some : goal.returns-in-Some
returns-in-Some c o m =
    let i : ℕ = c.loop-item.item in
    let f : Step → Bool = wanted c.args.marks.now c.args.later in
    let same : length c.args.marks.now.items ≡ o.items = m.alike.items in
    let lt : i < o.items = omega (arith, c.loop-item-test.true, c.items-item-end.ensures) in
    sym (below_some f (item_steps o 1) i o.items c.in-Some.step lt (c.loop-item.invariant.none o m) (sym (c.in-Some.ensures o m)))

pub loop-item-preserved : goal.loop-item-preserved
loop-item-preserved c = record {
  none = λ o m.
      below_none (wanted c.args.marks.now c.args.later) (item_steps o 1) c.loop-item.item (c.loop-item.invariant.none o m) (sym (c.in_default.ensures o m));
}

pub returns : goal.returns
returns c o m =
    let same : length c.args.marks.now.items ≡ o.items = m.alike.items in
    let e : c.loop-item.item ≡ o.items = omega (arith, c.items-item-end.ensures, c.loop-item-test.false, c.loop-item.auto.item-end) in
    sym (subst (λ n. first_of (wanted c.args.marks.now c.args.later) (below (item_steps o 1) n) ≡ None) e (c.loop-item.invariant.none o m))
