-- What some items print is no more than what all print.
use Rattle.std.proofs.Common.{◌≡◌, ℕ, zero, suc, ◌+◌, ◌≤◌, ◌<◌, List, [], ◌∷◌, map, take, length, get_or, ap, arith}
use Rattle.std.proofs.lemmas.List.Sums.{sum_by-cons}
use Rattle.mesh_decl.specs.Mesh.{MeshValue}
use Rattle.bound_program.specs.declared.acts.Item.{Item}
use Rattle.bound_program.specs.Values.{item_of}
use Rattle.loop_bind.specs.Weights.{weight, weight_of_all}

weight-cons : (g : MeshValue) (y : Item) (ys : List Item) → weight_of_all g (map item_of (y ∷ ys)) ≡ weight g (item_of y) + weight_of_all g (map item_of ys)
weight-cons g y ys = sum_by-cons (weight g) (item_of y) (map item_of ys)

at_most : (a b : ℕ) → 0 + a ≤ a + b
at_most a b = omega arith

behind : (a b c d : ℕ) → b + c ≤ d → (a + b) + c ≤ a + d
behind a b c d h = omega arith

pub weight_within : (g : MeshValue) (xs : List Item) (k : ℕ) (x : Item) → k < length xs → x ≡ get_or xs k x
    → weight_of_all g (map item_of (take k xs)) + weight g (item_of x) ≤ weight_of_all g (map item_of xs)
weight_within g [] k x h e = absurd (omega arith)
weight_within g (y ∷ ys) zero x h e =
    let first : weight g (item_of x) ≡ weight g (item_of y) = ap (λ z. weight g (item_of z)) e in
    rw (first, weight-cons g y ys) (at_most (weight g (item_of y)) (weight_of_all g (map item_of ys)))
weight_within g (y ∷ ys) (suc k) x h e =
    rw (weight-cons g y ys, weight-cons g y (take k ys))
    (behind (weight g (item_of y)) (weight_of_all g (map item_of (take k ys))) (weight g (item_of x)) (weight_of_all g (map item_of ys))
    (weight_within g ys k x (omega arith) e))
