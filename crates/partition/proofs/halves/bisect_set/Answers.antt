use Rattle.std.proofs.Common.{◌≡◌, ◌≤◌, ◌∙◌, ◌++◌, ℕ, nat_eq, List, length, get_or, take, drop, arith, subst, sym}
use Rattle.std.specs.List.{count_by}
use Rattle.partition.specs.Bisect.{IsHalved}
use Rattle.std.proofs.lemmas.List.{take_all, take-append-le}
use Rattle.partition.proofs.Halving.{all_once, bisected}
use Rattle.partition.proofs.halves.bisect_set.Goals as goal

pub halve-requires-clause-once : goal.halve-requires-clause-once
halve-requires-clause-once c = subst (λ (z : List ℕ). (x : ℕ) → count_by (λ y. nat_eq y x) z ≤ 1) (sym c.deref_mut-2.ensures.value)
    (all_once c.in_ok-elements.elements.items c.args.size c.in_ok-elements.ensures.length c.in_ok-elements.ensures.each)

pub returns-clause-halved : goal.returns-clause-halved
returns-clause-halved c =
    let xs : List ℕ = c.halve.new.owners in
    let n : ℕ = c.in_ok-owners.owners.len in
    let l : length xs ≡ n = omega (arith, c.halve.auto.owners, c.deref_mut.ensures.len) in
    let e : take n (xs ++ drop (length xs) c.in_ok-owners.owners.items) ≡ xs =
    take-append-le n xs (drop (length xs) c.in_ok-owners.owners.items) (omega (arith, l)) ∙ take_all n xs (omega (arith, l)) in
    rw e (bisected c.args.size c.args.ranks c.args.values.now c.args.dim xs c.in_ok-elements.elements.items c.requires.some
    c.in_ok-elements.ensures.length c.in_ok-elements.ensures.each
    (subst (λ (z : List ℕ). IsHalved c.args.ranks c.args.size c.args.ranks c.args.values.now c.args.dim (λ x. get_or xs x 0) 0
    c.args.ranks z) c.deref_mut-2.ensures.value (c.in_ok-halve.ensures.halved c.args.ranks (omega arith))))
