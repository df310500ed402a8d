use Rattle.std.proofs.Common.{◌≡◌, ◌<◌, ◌||◌, ◌++◌, ◌∷◌, [], false, ap, sym, ◌∙◌, arith, length, cond, nat_eq, ℕ, get_or}
use Rattle.std.proofs.lemmas.Bool.{eqb-true}
use Rattle.lemmas.specs.Below.{row}
use Rattle.local_mesh.specs.RankSet.{has}
use Rattle.local_mesh.specs.declared.rank_sets.rank_set.RankSet.{RankSet}
use Rattle.local_mesh.proofs.Inverse.{ordered_step}
use Rattle.local_mesh.proofs.groups.push_owned.Goals as goal
use Rattle.lemmas.proofs.Numbers.{nat_eq_comm}

-- the set of one rank
alone : (none one : RankSet) (owner : ℕ) → ((r : ℕ) → has none r ≡ false) → ((r : ℕ) → has one r ≡ (has none r || nat_eq r owner)) → (r : ℕ) → has one r ≡ nat_eq owner r
alone none one owner without with r = with r ∙ (ap (λ z. z || nat_eq r owner) (without r) ∙ nat_eq_comm r owner)

pub push_each-requires : goal.push_each-requires
push_each-requires c =
    let at : ℕ = get_or c.args.order.now c.loop-element.element-index 0 in
    let owner : ℕ = get_or c.args.owners.now at 0 in
    let within = c.requires.order c.loop-element.element-index c.loop-element-test.true in
    let below = c.requires.owners at within in
    record {
      few = omega (arith, c.loop-element.auto.lists, c.requires.few);
      ranks = λ r l t. (let q : owner ≡ r = eqb-true owner r
          (sym (alone c.empty.result c.with.result owner c.empty.ensures c.with.ensures r) ∙ t) in
          omega (arith, q, below, c.loop-element.auto.lists));
    }

pub loop-element-preserved : goal.loop-element-preserved
loop-element-preserved c =
    let n : ℕ = c.loop-element.element-index in
    let order : ℕ → ℕ = λ j. get_or c.args.order.now j 0 in
    let owner : ℕ = get_or c.args.owners.now (order n) 0 in
    λ r l. (let lr : r < length c.loop-element.lists = omega (arith, l, c.push_each.auto.lists) in
    ordered_step (row c.push_each.new.lists r) (row c.loop-element.lists r) n order (λ x. nat_eq (get_or c.args.owners.now x 0) r) (c.loop-element.invariant r lr)
    (c.in_ok-push_each.ensures r lr ∙ ap (λ z. row c.loop-element.lists r ++ cond z (order n ∷ []) []) (alone c.empty.result c.with.result owner c.empty.ensures c.with.ensures r)))
