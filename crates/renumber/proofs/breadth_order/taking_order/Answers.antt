use Rattle.std.proofs.Common.{◌≡◌, ◌<◌, ◌^◌, ◌*◌, ◌+◌, ℕ, List, length, get_or, ap, ◌∙◌, subst, take}
use Rattle.mesh_decl.specs.Mesh.{MeshValue, set_size, map_to}
use Rattle.renumber.specs.Taken.{IsTaken}
use Rattle.renumber.specs.Keys.{keyed}
use Rattle.renumber.specs.Degrees.{degree, degree_order}
use Rattle.renumber.specs.Neighbours.{are_neighbours}
use Rattle.renumber.proofs.breadth_order.Near.{next_agree}
use Rattle.renumber.proofs.breadth_order.taking_order.Goals as goal

-- what was taken by keys that are degrees was taken by degrees
taken : (g : MeshValue) (m : ℕ) (keys order : List ℕ) → ((x : ℕ) → x < set_size g (map_to g m) → get_or keys x 0 ≡ degree g m x)
    → IsTaken (set_size g (map_to g m)) (are_neighbours g m) (keyed keys) order
    → IsTaken (set_size g (map_to g m)) (are_neighbours g m) (degree_order g m) order
unfolding keyed degree_order
taken g m keys order is h k lk = next_agree (set_size g (map_to g m)) (are_neighbours g m) (keyed keys) (degree_order g m) (take k order)
    (get_or order k 0) (λ y ly. ap (λ z. z * 2 ^ 32 + y) (is y ly)) (h k lk)

pub breadth_first-requires-clause-all : goal.breadth_first-requires-clause-all
breadth_first-requires-clause-all c =
    let k : length c.deref.result.now ≡ set_size c.args.mesh.now (map_to c.args.mesh.now c.args.map) = ap (length {A = ℕ}) c.deref.ensures.value ∙ c.in_ok-keys.ensures.length in
    rw c.deref-3.ensures.value (λ y l. c.in_ok-starts.ensures.all y (rw k l))

pub returns-clause-taken : goal.returns-clause-taken
returns-clause-taken c = taken c.args.mesh.now c.args.map c.in_ok-keys.keys.items c.in_ok-order.order.items c.in_ok-keys.ensures.degrees
    (subst (λ (z : List ℕ). IsTaken (set_size c.args.mesh.now (map_to c.args.mesh.now c.args.map))
    (are_neighbours c.args.mesh.now c.args.map) (keyed z) c.in_ok-order.order.items) c.deref-2.ensures.value
    c.in_ok-order.ensures.taken)
