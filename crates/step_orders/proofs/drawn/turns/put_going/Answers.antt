use Rattle.std.proofs.Common.{◌≡◌, ◌∙◌, ◌≤◌, ◌+◌, ℕ, [], length, Bool, get_or, arith, sym, subst, take}
use Rattle.std.proofs.lemmas.Bool.{cond_both}
use Rattle.schedule_steps.specs.Drawn.{numbers}
use Rattle.step_orders.specs.Rests.{rests, sent_below, is_sent, can_go}
use Rattle.step_orders.proofs.drawn.Among.{push_number}
use Rattle.step_orders.proofs.drawn.turns.put_going.Goals as goal

pub loop-rank-preserved : goal.loop-rank-preserved
loop-rank-preserved c = record {
  room = c.put_if-count.ensures.room ∙ c.loop-rank.invariant.room;
  count = subst (λ n. n ≤ c.loop-rank.rank + 1) (sym c.put_if-count.ensures.count)
      (cond_both c.can_go.result (c.loop-rank.count + 1) c.loop-rank.count (λ n. n ≤ c.loop-rank.rank + 1)
      (λ e. let le : c.loop-rank.count ≤ c.loop-rank.rank = c.loop-rank.invariant.count in omega arith)
      (λ e. let le : c.loop-rank.count ≤ c.loop-rank.rank = c.loop-rank.invariant.count in omega arith));
  found = λ tails.
      let t : ℕ → Bool = λ r. can_go (is_sent (sent_below c.args.sent.now)) c.args.join (rests c.args.heads.now tails r) in
      push_number t c.loop-rank.rank c.can_go.result (take c.loop-rank.count c.loop-rank.found) (take c.put_if-count.result c.put_if-count.new.numbers)
      (c.loop-rank.invariant.found tails) (c.can_go.ensures (get_or tails c.loop-rank.rank [])) c.put_if-count.ensures.numbers;
}

pub returns-clause-found : goal.returns-clause-found
returns-clause-found c = λ tails.
    let t : ℕ → Bool = λ r. can_go (is_sent (sent_below c.args.sent.now)) c.args.join (rests c.args.heads.now tails r) in
    let end : c.loop-rank.rank ≡ length c.args.heads.now = omega (arith, c.loop-rank-test.false, c.loop-rank.auto.rank-end) in
    subst (λ n. take c.loop-rank.count c.loop-rank.found ≡ numbers t n) end (c.loop-rank.invariant.found tails)
