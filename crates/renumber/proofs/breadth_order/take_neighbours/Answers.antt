use Rattle.std.proofs.Common.{◌≡◌, ◌<◌, ◌++◌, ◌∷◌, [], ℕ, Bool, true, false, arith, length, get_or, List, Vec, ap, sym, ◌∙◌, subst}
use Rattle.std.specs.declared.alloc.Global.{Global}
use Rattle.std.proofs.lemmas.List.{length_push, get_or_append_left, get_or_read}
use Rattle.mesh_decl.specs.Mesh.{MeshValue, IsMapAt, map_count, set_size, map_to}
use Rattle.renumber.specs.Keys.{keyed}
use Rattle.renumber.specs.Neighbours.{are_neighbours}
use Rattle.renumber.specs.Unseen.{AreUnseen}
use Rattle.renumber.proofs.breadth_order.Near.{neighbours_within}
use Rattle.renumber.proofs.breadth_order.Walk.{before, all_done, next_near, walk_push, walk_closed, taken_push, marked_set, done_set, done_more}
use Rattle.renumber.proofs.breadth_order.take_neighbours.Goals as goal
use Rattle.renumber.proofs.breadth_order.take_neighbours.Goals.{then-not-seen-neighbour+in_ok-push, else-not-seen-neighbour}

pub unseen_neighbours-requires-clause-element : goal.unseen_neighbours-requires-clause-element
unseen_neighbours-requires-clause-element c =
    let e = get_or_read c.args.order.now.items c.args.head c.index.result.now c.requires.head c.index.ensures 0 in
    rw e (c.requires.walk.within c.args.head c.requires.head)

-- what was found are neighbours of the element at the place
found : (g : MeshValue) (m x v : ℕ) (seen : List Bool) (keys now items : List ℕ) → v ≡ x → items ≡ now → AreUnseen g m v seen keys now → AreUnseen g m x seen keys items
found g m x v seen keys now items e f u = subst (λ z. AreUnseen g m z seen keys items) e (subst (λ (z : List ℕ). AreUnseen g m v seen keys z) (sym f) u)

bound : (g : MeshValue) (m x i : ℕ) (old seen : List Bool) (keys items : List ℕ) → IsMapAt g m → m < map_count g
    → AreUnseen g m x old keys items → i < length items → length seen ≡ set_size g (map_to g m) → get_or items i 0 < length seen
bound g m x i old seen keys items at lm u l e = rw e (neighbours_within g m x (get_or items i 0) at lm (u.near i l)).1

pub bounds-seen-neighbour : goal.bounds-seen-neighbour
bounds-seen-neighbour c =
    let g = c.args.mesh.now in
    let m : ℕ = c.args.map in
    let items : List ℕ = c.as_slice-neighbour-items.result.now in
    let x : ℕ = get_or c.args.order.now.items c.args.head 0 in
    let u : AreUnseen g m x c.args.seen.now c.args.keys.now items =
    found g m x c.index.result.now c.args.seen.now c.args.keys.now c.unseen_neighbours.new.found.items items
    (get_or_read c.args.order.now.items c.args.head c.index.result.now c.requires.head c.index.ensures 0)
    c.as_slice-neighbour-items.ensures.value c.in_ok-unseen_neighbours.ensures in
    bound g m x c.loop-neighbour.neighbour-index c.args.seen.now c.loop-neighbour.seen c.args.keys.now items c.requires.at c.requires.map u
    c.loop-neighbour-test.true c.loop-neighbour.invariant.walk.size

pub bounds-seen-neighbour-then-not-seen-neighbour : goal.bounds-seen-neighbour-then-not-seen-neighbour
bounds-seen-neighbour-then-not-seen-neighbour c =
    let g = c.args.mesh.now in
    let m : ℕ = c.args.map in
    let items : List ℕ = c.as_slice-neighbour-items.result.now in
    let x : ℕ = get_or c.args.order.now.items c.args.head 0 in
    let u : AreUnseen g m x c.args.seen.now c.args.keys.now items =
    found g m x c.index.result.now c.args.seen.now c.args.keys.now c.unseen_neighbours.new.found.items items
    (get_or_read c.args.order.now.items c.args.head c.index.result.now c.requires.head c.index.ensures 0)
    c.as_slice-neighbour-items.ensures.value c.in_ok-unseen_neighbours.ensures in
    bound g m x c.loop-neighbour.neighbour-index c.args.seen.now c.loop-neighbour.seen c.args.keys.now items c.requires.at c.requires.map u
    c.loop-neighbour-test.true c.loop-neighbour.invariant.walk.size

pub loop-neighbour-preserved : goal.loop-neighbour-preserved
loop-neighbour-preserved c =
    let g = c.args.mesh.now in
    let m : ℕ = c.args.map in
    let n : ℕ = set_size g (map_to g m) in
    let near = are_neighbours g m in
    let i : ℕ = c.loop-neighbour.neighbour-index in
    let items : List ℕ = c.as_slice-neighbour-items.result.now in
    let x : ℕ = get_or c.args.order.now.items c.args.head 0 in
    let z : ℕ = get_or items i 0 in
    let order : List ℕ = c.loop-neighbour.order.items in
    let seen : List Bool = c.loop-neighbour.seen in
    let inv = c.loop-neighbour.invariant in
    let u : AreUnseen g m x c.args.seen.now c.args.keys.now items =
    found g m x c.index.result.now c.args.seen.now c.args.keys.now c.unseen_neighbours.new.found.items items
    (get_or_read c.args.order.now.items c.args.head c.index.result.now c.requires.head c.index.ensures 0)
    c.as_slice-neighbour-items.ensures.value c.in_ok-unseen_neighbours.ensures in
    let nz : near x z ≡ true = u.near i c.loop-neighbour-test.true in
    let lz : z < n = (neighbours_within g m x z c.requires.at c.requires.map nz).1 in
    let ls : z < length seen = rw inv.walk.size lz in
    let lh : c.args.head < length order = omega (arith, c.requires.head, inv.more) in
    elim c.if-not-seen-neighbour.branch [
      | then-not-seen-neighbour+in_ok-push w ↦
          (let f : get_or seen z false ≡ false = w.if-not-seen-neighbour.true in
          let io : c.if-not-seen-neighbour.order.items ≡ order ++ z ∷ [] = ap (λ (v : Vec ℕ Global). v.items) w.order-is ∙ w.in_ok-push.ensures.items in
          rw (io, w.seen-is) (record {
            walk = walk_push n near order seen c.args.head z inv.walk (omega arith) lz f;
            more = (let p = length_push order z in omega (arith, p, inv.more));
            here = get_or_append_left order (z ∷ []) 0 c.args.head lh ∙ inv.here;
            done = done_set seen items i ls inv.done;
            taken = λ was. taken_push n near (keyed c.args.keys.now) order z (inv.taken was)
                (next_near n near (keyed c.args.keys.now) order seen c.args.head i items inv.walk lh c.loop-neighbour-test.true lz (subst (λ q. near q z ≡ true) (sym inv.here) nz) f
                (λ y t fy. u.all y (subst (λ q. near q y ≡ true) inv.here t) (before c.args.seen.now seen y inv.kept fy)) inv.done u.rises);
            kept = λ y t. marked_set seen z y ls (inv.kept y t);
          }))
      | else-not-seen-neighbour w ↦
          (let t : get_or seen z false ≡ true = w.if-not-seen-neighbour.false in
          rw (w.order-is, w.seen-is) (record {
            walk = inv.walk;
            more = inv.more;
            here = inv.here;
            done = done_more seen items i t inv.done;
            taken = inv.taken;
            kept = inv.kept;
          }))
    ]

pub returns-clause-walk : goal.returns-clause-walk
returns-clause-walk c =
    let g = c.args.mesh.now in
    let m : ℕ = c.args.map in
    let near = are_neighbours g m in
    let items : List ℕ = c.as_slice-neighbour-items.result.now in
    let x : ℕ = get_or c.args.order.now.items c.args.head 0 in
    let inv = c.loop-neighbour.invariant in
    let u : AreUnseen g m x c.args.seen.now c.args.keys.now items =
    found g m x c.index.result.now c.args.seen.now c.args.keys.now c.unseen_neighbours.new.found.items items
    (get_or_read c.args.order.now.items c.args.head c.index.result.now c.requires.head c.index.ensures 0)
    c.as_slice-neighbour-items.ensures.value c.in_ok-unseen_neighbours.ensures in
    walk_closed (set_size g (map_to g m)) near c.loop-neighbour.order.items c.loop-neighbour.seen c.args.head inv.walk
    (λ y t. all_done (near x) c.args.seen.now c.loop-neighbour.seen items u.all inv.kept (λ i l. inv.done i (omega arith)) y (subst (λ q. near q y ≡ true) inv.here t))
