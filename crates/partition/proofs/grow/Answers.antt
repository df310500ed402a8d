use Rattle.std.proofs.Common.{◌≡◌, ◌<◌, ℕ, List, nat_eq, get_or, ap, sym, subst}
use Rattle.mesh_decl.specs.Mesh.{MeshValue, set_count, set_size, map_to}
use Rattle.mesh_decl.specs.declared.owners.Owners.{Owners}
use Rattle.mesh_decl.specs.Owners.{owners_in, owner_of}
use Rattle.renumber.specs.Neighbours.{are_neighbours}
use Rattle.partition.specs.Derive.{AreDerived}
use Rattle.partition.specs.Grow.{IsGrown}
use Rattle.partition.proofs.OneSet.{all_ok, one_kept, derived_own}
use Rattle.partition.proofs.grow.Goals as goal

-- the set that was grown keeps its owners
grown_kept : (g : MeshValue) (o : Owners) (m t ranks : ℕ) (xs : List ℕ) → t ≡ map_to g m → t < set_count g
    → IsGrown (set_size g (map_to g m)) ranks (are_neighbours g m) (λ x. get_or xs x 0) → AreDerived g o (λ s. nat_eq s t) (λ s. xs)
    → IsGrown (set_size g (map_to g m)) ranks (are_neighbours g m) (owner_of o (map_to g m))
unfolding owners_in owner_of
grown_kept g o m t ranks xs e l h d = subst (λ q. IsGrown (set_size g (map_to g m)) ranks (are_neighbours g m) (owner_of o q)) e
    (subst (λ (z : List ℕ). IsGrown (set_size g (map_to g m)) ranks (are_neighbours g m) (λ x. get_or z x 0)) (sym (one_kept g o t xs l d)) h)

pub returns-clause-grown : goal.returns-clause-grown
returns-clause-grown c =
    let g = c.args.mesh.now in
    let m : ℕ = c.args.map in
    let t : ℕ = c.map_ends-to.result.1 in
    let xs : List ℕ = c.in_ok-owners.owners.items in
    let e : t ≡ map_to g m = ap (λ z. z.1) c.map_ends-to.ensures in
    let l : t < set_count g = rw e (c.is_in_range.ensures.maps m c.requires.map).to in
    all_ok (λ o. AreDerived g o (λ s. nat_eq s t) (λ s. xs)) (λ o. IsGrown (set_size g (map_to g m)) c.args.ranks (are_neighbours g m) (owner_of o (map_to g m))) c.derive_from.result
    (λ o d. grown_kept g o m t c.args.ranks xs e l c.in_ok-owners.ensures.grown d) c.derive_from.ensures.derived

pub returns-clause-derived : goal.returns-clause-derived
returns-clause-derived c =
    let g = c.args.mesh.now in
    let m : ℕ = c.args.map in
    let t : ℕ = c.map_ends-to.result.1 in
    let xs : List ℕ = c.in_ok-owners.owners.items in
    let e : t ≡ map_to g m = ap (λ z. z.1) c.map_ends-to.ensures in
    all_ok (λ o. AreDerived g o (λ s. nat_eq s t) (λ s. xs)) (λ o. AreDerived g o (λ s. nat_eq s (map_to g m)) (owners_in o)) c.derive_from.result
    (λ o d. subst (λ q. AreDerived g o (λ s. nat_eq s q) (owners_in o)) e (derived_own g o t xs d)) c.derive_from.ensures.derived
