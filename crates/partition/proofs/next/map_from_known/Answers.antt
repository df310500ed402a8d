use Rattle.std.proofs.Common.{◌≡◌, ℕ, true, false, nat_eq, get_or, arith, subst}
use Rattle.std.proofs.lemmas.Bool.{eq-eqb, and_from}
use Rattle.mesh_decl.specs.Mesh.{map_count, map_from, map_to}
use Rattle.partition.specs.Derive.{leads_from_known}
use Rattle.partition.proofs.Firsts.{first_from}
use Rattle.partition.proofs.next.map_from_known.Goals as goal

pub returns-then-known-from-clause-some : goal.returns-then-known-from-clause-some
returns-then-known-from-clause-some c =
    let g = c.args.mesh.now in
    let m : ℕ = c.loop-map.map in
    let e = c.map_ends-from.ensures in
    let f : map_to g m ≡ c.args.set = subst (λ (z : ℕ × ℕ × ℕ). z.1 ≡ c.args.set) e c.if-to-set.true in
    let k : get_or c.args.known.now (map_from g m) false ≡ true = subst (λ (z : ℕ × ℕ × ℕ). get_or c.args.known.now z.0 false ≡ true) e c.if-known-from.true in
    first_from (map_count g) (leads_from_known g (λ s. get_or c.args.known.now s false) c.args.set) m (omega (arith, c.loop-map-test.true, c.loop-map.auto.map-end, c.map_count-map-end.ensures.count))
    (and_from (nat_eq (map_to g m) c.args.set) (get_or c.args.known.now (map_from g m) false) (eq-eqb (map_to g m) c.args.set f) k) c.loop-map.invariant
