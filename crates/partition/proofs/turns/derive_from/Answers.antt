use Rattle.std.proofs.Common.{◌≡◌, ◌∙◌, ℕ, List, [], false, nat_eq, get_or, set, arith}
use Rattle.std.proofs.lemmas.List.{get_or-set_same}
use Rattle.mesh_decl.specs.Mesh.{set_count}
use Rattle.partition.specs.Derive.{AreDerived}
use Rattle.partition.proofs.OneSet.{all_ok, derived_one}
use Rattle.partition.proofs.turns.derive_from.Goals as goal

pub returns-clause-derived : goal.returns-clause-derived
returns-clause-derived c =
    let g = c.args.mesh.now in
    let t : ℕ = c.args.set in
    let sets : List (List ℕ) = c.loop-other.sets.items in
    let xs : List ℕ = c.new-2.result in
    let n : c.loop-other.other ≡ set_count g = omega (arith, c.set_count-other-end.ensures.count, c.loop-other-test.false, c.loop-other.auto.other-end) in
    all_ok (λ o. AreDerived g o (λ s. get_or c.loop-other.known.items s false) (λ s. get_or (set sets t xs) s []))
    (λ o. AreDerived g o (λ s. nat_eq s t) (λ s. c.args.owners.items)) c.derive_rest.result
    (λ o. derived_one g o c.loop-other.known.items (set sets t xs) t c.args.owners.items (λ s l. c.loop-other.invariant.2 s (rw n l))
    (get_or-set_same sets t xs [] (omega (arith, n, c.requires.set, c.loop-other.invariant.0)) ∙ c.new-2.ensures))
    c.derive_rest.ensures.derived
