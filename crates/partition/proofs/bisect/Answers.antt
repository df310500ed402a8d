use Rattle.std.proofs.Common.{◌≡◌, ℕ, List, nat_eq, ap, subst}
use Rattle.mesh_decl.specs.Mesh.{dat_set}
use Rattle.mesh_decl.specs.Owners.{owners_in}
use Rattle.partition.specs.Derive.{AreDerived}
use Rattle.partition.proofs.OneSet.{all_ok, derived_own}
use Rattle.partition.proofs.bisect.Goals as goal

pub returns-clause-derived : goal.returns-clause-derived
returns-clause-derived c =
    let g = c.args.mesh.now in
    let t : ℕ = c.dat_shape-set.result.0 in
    let xs : List ℕ = c.in_ok-owners.owners.items in
    let e : t ≡ dat_set g c.args.dat = ap (λ (p : ℕ × ℕ). p.0) c.dat_shape-set.ensures in
    all_ok (λ o. AreDerived g o (λ s. nat_eq s t) (λ s. xs)) (λ o. AreDerived g o (λ s. nat_eq s (dat_set g c.args.dat)) (owners_in o)) c.derive_from.result
    (λ o d. subst (λ q. AreDerived g o (λ s. nat_eq s q) (owners_in o)) e (derived_own g o t xs d)) c.derive_from.ensures.derived
