use Rattle.std.proofs.Common.{◌≡◌, ◌∙◌, ℕ, [], length, Bool, get_or, arith, sym, subst}
use Rattle.schedule_steps.specs.Drawn.{numbers, is_early}
use Rattle.step_orders.specs.Rests.{rests}
use Rattle.step_orders.proofs.drawn.Among.{none_more, some_there}
use Rattle.step_orders.proofs.drawn.turns.is_any_early.Goals as goal

pub returns-then-is_early-clause-yes : goal.returns-then-is_early-clause-yes
returns-then-is_early-clause-yes c = λ yes tails.
    let t : ℕ → Bool = λ r. is_early c.args.join (rests c.args.heads.now tails r) in
    some_there t (length c.args.heads.now) c.loop-rank.rank (omega (arith, c.loop-rank-test.true, c.loop-rank.auto.rank-end))
    (sym (c.is_early.ensures (get_or tails c.loop-rank.rank [])) ∙ c.if-is_early.true)

pub loop-rank-preserved : goal.loop-rank-preserved
loop-rank-preserved c = record {
  none = λ tails.
      let t : ℕ → Bool = λ r. is_early c.args.join (rests c.args.heads.now tails r) in
      none_more t c.loop-rank.rank (c.loop-rank.invariant.none tails) (sym (c.is_early.ensures (get_or tails c.loop-rank.rank [])) ∙ c.if-is_early.false);
}

pub returns-clause-no : goal.returns-clause-no
returns-clause-no c = λ no tails.
    let t : ℕ → Bool = λ r. is_early c.args.join (rests c.args.heads.now tails r) in
    let end : c.loop-rank.rank ≡ length c.args.heads.now = omega (arith, c.loop-rank-test.false, c.loop-rank.auto.rank-end) in
    subst (λ n. numbers t n ≡ []) end (c.loop-rank.invariant.none tails)
