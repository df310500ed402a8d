use Rattle.std.proofs.Common.{◌≡◌, ◌<◌, ◌∙◌, sym, ap, ℕ, Bool, true, false, arith, [], ◌∷◌, subst, None}
use Rattle.std.specs.Prelude.{◌&&◌}
use Rattle.schedule_steps.specs.declared.step.Step.{Step}
use Rattle.schedule_steps.specs.declared.step.Step.TheVariants.{Recv}
use Rattle.schedule_steps.specs.Standard.{below, where_true}
use Rattle.schedule_steps.specs.Judged.{first_of}
use Rattle.step_judge.specs.Wanted.{wanted}
use Rattle.step_judge.proofs.Firsts.{below_some, below_none, where_some, where_none, sends_here}
use Rattle.step_judge.proofs.messages.first_receive.Goals as goal

pub returns-then-has_wanted : goal.returns-then-has_wanted
returns-then-has_wanted c o m =
    let i : ℕ = c.loop-from.from in
    let f : Step → Bool = wanted c.args.marks.now c.args.later in
    let same : c.args.marks.now.ranks ≡ o.ranks = m.alike.ranks in
    let lt : i < c.args.marks.now.ranks = omega (arith, c.loop-from-test.true, c.ranks-from-end.ensures) in
    let h : (o.sends c.args.item i c.args.rank && f (Recv c.args.item c.args.rank i)) ≡ true =
    ap (λ z. z && f (Recv c.args.item c.args.rank i))
    (sym (sends_here c.args.marks.now o m c.args.item c.requires.item i c.args.rank c.requires.free lt c.requires.rank))
    ∙ (sym c.has_wanted.ensures ∙ c.if-has_wanted.true) in
    sym (below_some f (λ s. where_true (o.sends c.args.item s c.args.rank) (Recv c.args.item c.args.rank s ∷ [])) i o.ranks
    (Recv c.args.item c.args.rank i) (omega arith) (c.loop-from.invariant.none o m)
    (where_some f (o.sends c.args.item i c.args.rank) (Recv c.args.item c.args.rank i) h))

pub loop-from-preserved : goal.loop-from-preserved
loop-from-preserved c = record {
  none = λ o m.
      (let i : ℕ = c.loop-from.from in
      let f : Step → Bool = wanted c.args.marks.now c.args.later in
      let lt : i < c.args.marks.now.ranks = omega (arith, c.loop-from-test.true, c.ranks-from-end.ensures) in
      let h : (o.sends c.args.item i c.args.rank && f (Recv c.args.item c.args.rank i)) ≡ false =
      ap (λ z. z && f (Recv c.args.item c.args.rank i))
      (sym (sends_here c.args.marks.now o m c.args.item c.requires.item i c.args.rank c.requires.free lt c.requires.rank))
      ∙ (sym c.has_wanted.ensures ∙ c.if-has_wanted.false) in
      below_none f (λ s. where_true (o.sends c.args.item s c.args.rank) (Recv c.args.item c.args.rank s ∷ [])) i
      (c.loop-from.invariant.none o m) (where_none f (o.sends c.args.item i c.args.rank) (Recv c.args.item c.args.rank i) h));
}

pub returns : goal.returns
returns c o m =
    let same : c.args.marks.now.ranks ≡ o.ranks = m.alike.ranks in
    let e : c.loop-from.from ≡ o.ranks = omega (arith, c.ranks-from-end.ensures, c.loop-from-test.false, c.loop-from.auto.from-end) in
    sym (subst (λ n. first_of (wanted c.args.marks.now c.args.later)
    (below (λ s. where_true (o.sends c.args.item s c.args.rank) (Recv c.args.item c.args.rank s ∷ [])) n) ≡ None) e
    (c.loop-from.invariant.none o m))
