use Rattle.std.proofs.Common.{◌≡◌, ◌<◌, ℕ, List, length, get_or, sym, subst}
use Rattle.mesh_decl.specs.Mesh.{set_size, map_to}
use Rattle.partition.specs.Block.{InBlock}
use Rattle.partition.proofs.growth.grow_set.Goals as goal

pub owners_by_places-requires-clause-few : goal.owners_by_places-requires-clause-few
owners_by_places-requires-clause-few c = rw c.deref.ensures.value (rw c.in_ok-order.ensures.length (c.requires.sizes (map_to c.args.mesh.now c.args.map)))

pub returns-clause-grown : goal.returns-clause-grown
returns-clause-grown c =
    let g = c.args.mesh.now in
    let ranks : ℕ = c.args.ranks in
    let n : ℕ = set_size g (map_to g c.args.map) in
    let order : List ℕ = c.in_ok-order.order.items in
    let owners : List ℕ = c.in_ok-owners.owners.items in
    let lo : length order ≡ n = c.in_ok-order.ensures.length in
    let own : (k i : ℕ) → k < length order → InBlock (length order) ranks i k → get_or owners (get_or order k 0) 0 ≡ i =
    subst (λ (z : List ℕ). (k i : ℕ) → k < length z → InBlock (length z) ranks i k → get_or owners (get_or z k 0) 0 ≡ i)
    c.deref.ensures.value c.in_ok-owners.ensures.owners in
    record {
      order = order;
      all = lo;
      next = c.in_ok-order.ensures.next;
      owners = λ k i lk b. own k i (subst (λ z. k < z) (sym lo) lk) (subst (λ z. InBlock z ranks i k) (sym lo) b);
    }
