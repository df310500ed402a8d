use Rattle.std.proofs.Common.{◌≡◌, ◌<◌, ◌||◌, ◌++◌, ◌∷◌, [], Bool, true, false, ap, sym, ◌∙◌, refl, ⊎_elim, arith, length, cond, nat_eq, ℕ, get_or}
use Rattle.std.proofs.lemmas.Bool.{eqb-true, or_cases}
use Rattle.lemmas.specs.Below.{row}
use Rattle.local_mesh.specs.RankSet.{has, has_at}
use Rattle.local_mesh.specs.declared.rank_sets.rank_set.RankSet.{RankSet}
use Rattle.lemmas.proofs.Below.{listed_step}
use Rattle.local_mesh.proofs.groups.push_copies.Goals as goal
use Rattle.lemmas.proofs.Numbers.{nat_eq_comm}

or_swap : (a b : Bool) → (a || b) ≡ (b || a)
or_swap true true = refl
or_swap true false = refl
or_swap false true = refl
or_swap false false = refl

-- the owner beside those that import
all : (either one : RankSet) (owner : ℕ) (e n : Bool) (r : ℕ) → has either r ≡ (e || n) → has one r ≡ (has either r || nat_eq r owner) → has one r ≡ (nat_eq owner r || (e || n))
all either one owner e n r h k = k ∙ (ap (λ z. z || nat_eq r owner) h ∙ (or_swap (e || n) (nat_eq r owner) ∙ ap (λ z. z || (e || n)) (nat_eq_comm r owner)))

pub push_each-requires : goal.push_each-requires
unfolding has_at
push_each-requires c =
    let x : ℕ = c.loop-element.element in
    let owner : ℕ = get_or c.args.owners.now x 0 in
    let below = c.requires.owners x c.loop-element-test.true in
    record {
      few = omega (arith, c.loop-element.auto.lists, c.requires.few);
      ranks = λ r l t. (
          let b : r < length c.args.lists.now = ⊎_elim
          (λ (e : nat_eq owner r ≡ true). (let q = eqb-true owner r e in omega (arith, q, below)))
          (λ (e : (has_at c.args.exec_sets.now x r || has_at c.args.nonexec_sets.now x r) ≡ true). ⊎_elim
          (λ (f : has_at c.args.exec_sets.now x r ≡ true). c.requires.exec_below x r l f)
          (λ (f : has_at c.args.nonexec_sets.now x r ≡ true). c.requires.nonexec_below x r l f)
          (or_cases (has_at c.args.exec_sets.now x r) (has_at c.args.nonexec_sets.now x r) e))
          (or_cases (nat_eq owner r) (has_at c.args.exec_sets.now x r || has_at c.args.nonexec_sets.now x r)
          (sym (all c.union-imported.result c.with.result owner (has_at c.args.exec_sets.now x r) (has_at c.args.nonexec_sets.now x r) r
          (c.union-imported.ensures r) (c.with.ensures r)) ∙ t)) in
          omega (arith, b, c.loop-element.auto.lists));
    }

pub loop-element-preserved : goal.loop-element-preserved
unfolding has_at
loop-element-preserved c =
    let x : ℕ = c.loop-element.element in
    let owner : ℕ = get_or c.args.owners.now x 0 in
    λ r l. (let lr : r < length c.loop-element.lists = omega (arith, l, c.push_each.auto.lists) in
    listed_step (row c.push_each.new.lists r) (row c.loop-element.lists r) x (λ y. nat_eq (get_or c.args.owners.now y 0) r || (has_at c.args.exec_sets.now y r || has_at c.args.nonexec_sets.now y r))
    (c.loop-element.invariant r lr)
    (c.in_ok-push_each.ensures r lr ∙ ap (λ z. row c.loop-element.lists r ++ cond z (x ∷ []) [])
    (all c.union-imported.result c.with.result owner (has_at c.args.exec_sets.now x r) (has_at c.args.nonexec_sets.now x r) r
    (c.union-imported.ensures r) (c.with.ensures r))))
