use Rattle.std.proofs.Common.{◌≡◌, ◌<◌, ◌∙◌, sym, ap, ℕ, Bool, true, false, arith, [], ◌∷◌, subst, None}
use Rattle.std.specs.Prelude.{◌&&◌}
use Rattle.schedule_steps.specs.declared.step.Step.{Step}
use Rattle.schedule_steps.specs.declared.step.Step.TheVariants.{Send}
use Rattle.schedule_steps.specs.Standard.{below, where_true}
use Rattle.schedule_steps.specs.Judged.{first_of}
use Rattle.step_judge.specs.Wanted.{wanted}
use Rattle.step_judge.proofs.Firsts.{below_some, below_none, where_some, where_none, sends_here}
use Rattle.step_judge.proofs.messages.first_send.Goals as goal

pub returns-then-has_wanted : goal.returns-then-has_wanted
returns-then-has_wanted c o m =
    let i : ℕ = c.loop-to.to in
    let f : Step → Bool = wanted c.args.marks.now c.args.later in
    let same : c.args.marks.now.ranks ≡ o.ranks = m.alike.ranks in
    let lt : i < c.args.marks.now.ranks = omega (arith, c.loop-to-test.true, c.ranks-to-end.ensures) in
    let h : (o.sends c.args.item c.args.from i && f (Send c.args.item c.args.from i)) ≡ true =
    ap (λ z. z && f (Send c.args.item c.args.from i))
    (sym (sends_here c.args.marks.now o m c.args.item c.requires.item c.args.from i c.requires.free c.requires.rank lt))
    ∙ (sym c.has_wanted.ensures ∙ c.if-has_wanted.true) in
    sym (below_some f (λ r. where_true (o.sends c.args.item c.args.from r) (Send c.args.item c.args.from r ∷ [])) i o.ranks
    (Send c.args.item c.args.from i) (omega arith) (c.loop-to.invariant.none o m)
    (where_some f (o.sends c.args.item c.args.from i) (Send c.args.item c.args.from i) h))

pub loop-to-preserved : goal.loop-to-preserved
loop-to-preserved c = record {
  none = λ o m.
      (let i : ℕ = c.loop-to.to in
      let f : Step → Bool = wanted c.args.marks.now c.args.later in
      let lt : i < c.args.marks.now.ranks = omega (arith, c.loop-to-test.true, c.ranks-to-end.ensures) in
      let h : (o.sends c.args.item c.args.from i && f (Send c.args.item c.args.from i)) ≡ false =
      ap (λ z. z && f (Send c.args.item c.args.from i))
      (sym (sends_here c.args.marks.now o m c.args.item c.requires.item c.args.from i c.requires.free c.requires.rank lt))
      ∙ (sym c.has_wanted.ensures ∙ c.if-has_wanted.false) in
      below_none f (λ r. where_true (o.sends c.args.item c.args.from r) (Send c.args.item c.args.from r ∷ [])) i
      (c.loop-to.invariant.none o m) (where_none f (o.sends c.args.item c.args.from i) (Send c.args.item c.args.from i) h));
}

pub returns : goal.returns
returns c o m =
    let same : c.args.marks.now.ranks ≡ o.ranks = m.alike.ranks in
    let e : c.loop-to.to ≡ o.ranks = omega (arith, c.ranks-to-end.ensures, c.loop-to-test.false, c.loop-to.auto.to-end) in
    sym (subst (λ n. first_of (wanted c.args.marks.now c.args.later)
    (below (λ r. where_true (o.sends c.args.item c.args.from r) (Send c.args.item c.args.from r ∷ [])) n) ≡ None) e
    (c.loop-to.invariant.none o m))
