use Rattle.std.proofs.Common.{◌≡◌, ◌<◌, ◌+◌, ◌++◌, ◌∷◌, [], ℕ, Bool, true, false, arith, length, get_or, List, Vec, ap, sym, refl, ◌∙◌, subst}
use Rattle.std.specs.declared.alloc.Global.{Global}
use Rattle.std.proofs.lemmas.List.{length_push, get_or_append_left, get_or_read}
use Rattle.mesh_decl.specs.Mesh.{MeshValue, IsMapAt, map_count, set_size, map_to}
use Rattle.renumber.specs.Neighbours.{are_neighbours}
use Rattle.renumber.specs.Unseen.{AreUnseen}
use Rattle.renumber.proofs.Public.{neighbours_within, before, all_done, walk_push, marked_set, done_set, done_more}
use Rattle.partition.specs.Block.{block_start}
use Rattle.partition.proofs.Giving.{growing_push, growing_closed, next_near_free, by_number}
use Rattle.partition.proofs.growth.take_neighbours.Goals as goal
use Rattle.partition.proofs.growth.take_neighbours.Goals.{then-len-end+then-not-seen-neighbour+in_ok-push, else-len-end, else-len-end-via-then-len-end+else-not-seen-neighbour, else-len-end-via-else-len-end}

pub unseen_neighbours-requires-clause-element : goal.unseen_neighbours-requires-clause-element
unseen_neighbours-requires-clause-element c =
    let e = get_or_read c.args.order.now.items c.args.head c.index.result.now c.requires.head c.index.ensures 0 in
    rw e (c.requires.walk.within c.args.head c.requires.head)

-- what was found are neighbours of the element at the place
found : (g : MeshValue) (m x v : ℕ) (seen : List Bool) (now items : List ℕ) → v ≡ x → items ≡ now → AreUnseen g m v seen [] now → AreUnseen g m x seen [] items
found g m x v seen now items e f u = subst (λ z. AreUnseen g m z seen [] items) e (subst (λ (z : List ℕ). AreUnseen g m v seen [] z) (sym f) u)

bound : (g : MeshValue) (m x i : ℕ) (old seen : List Bool) (items : List ℕ) → IsMapAt g m → m < map_count g → AreUnseen g m x old [] items
    → i < length items → length seen ≡ set_size g (map_to g m) → get_or items i 0 < length seen
bound g m x i old seen items at lm u l e = rw e (neighbours_within g m x (get_or items i 0) at lm (u.near i l)).1

pub bounds-seen-neighbour : goal.bounds-seen-neighbour
bounds-seen-neighbour c =
    let g = c.args.mesh.now in
    let m : ℕ = c.args.map in
    let items : List ℕ = c.as_slice-neighbour-items.result.now in
    let x : ℕ = get_or c.args.order.now.items c.args.head 0 in
    let u : AreUnseen g m x c.args.seen.now [] items = found g m x c.index.result.now c.args.seen.now c.unseen_neighbours.new.found.items
    items (get_or_read c.args.order.now.items c.args.head c.index.result.now c.requires.head c.index.ensures 0)
    c.as_slice-neighbour-items.ensures.value c.in_ok-unseen_neighbours.ensures in
    bound g m x c.loop-neighbour.neighbour-index c.args.seen.now c.loop-neighbour.seen items c.requires.at c.requires.map u c.loop-neighbour-test.true c.loop-neighbour.invariant.walk.size

pub bounds-seen-neighbour-then-not-seen-neighbour : goal.bounds-seen-neighbour-then-not-seen-neighbour
bounds-seen-neighbour-then-not-seen-neighbour c =
    let g = c.args.mesh.now in
    let m : ℕ = c.args.map in
    let items : List ℕ = c.as_slice-neighbour-items.result.now in
    let x : ℕ = get_or c.args.order.now.items c.args.head 0 in
    let u : AreUnseen g m x c.args.seen.now [] items = found g m x c.index.result.now c.args.seen.now c.unseen_neighbours.new.found.items
    items (get_or_read c.args.order.now.items c.args.head c.index.result.now c.requires.head c.index.ensures 0)
    c.as_slice-neighbour-items.ensures.value c.in_ok-unseen_neighbours.ensures in
    bound g m x c.loop-neighbour.neighbour-index c.args.seen.now c.loop-neighbour.seen items c.requires.at c.requires.map u c.loop-neighbour-test.true c.loop-neighbour.invariant.walk.size

pub loop-neighbour-preserved : goal.loop-neighbour-preserved
loop-neighbour-preserved c =
    let g = c.args.mesh.now in
    let m : ℕ = c.args.map in
    let n : ℕ = set_size g (map_to g m) in
    let near = are_neighbours g m in
    let i : ℕ = c.loop-neighbour.neighbour-index in
    let items : List ℕ = c.as_slice-neighbour-items.result.now in
    let x : ℕ = get_or c.args.order.now.items c.args.head 0 in
    let z : ℕ = get_or items i 0 in
    let order : List ℕ = c.loop-neighbour.order.items in
    let seen : List Bool = c.loop-neighbour.seen in
    let inv = c.loop-neighbour.invariant in
    let u : AreUnseen g m x c.args.seen.now [] items = found g m x c.index.result.now c.args.seen.now c.unseen_neighbours.new.found.items
    items (get_or_read c.args.order.now.items c.args.head c.index.result.now c.requires.head c.index.ensures 0)
    c.as_slice-neighbour-items.ensures.value c.in_ok-unseen_neighbours.ensures in
    let nz : near x z ≡ true = u.near i c.loop-neighbour-test.true in
    let lz : z < n = (neighbours_within g m x z c.requires.at c.requires.map nz).1 in
    let ls : z < length seen = rw inv.walk.size lz in
    let lh : c.args.head < length order = omega (arith, c.requires.head, inv.more) in
    let p = length_push order z in
    elim c.if-len-end.branch [
      | then-len-end+then-not-seen-neighbour+in_ok-push w ↦
          (let f : get_or seen z false ≡ false = w.if-not-seen-neighbour.true in
          let short : length order < c.args.end = omega (arith, w.if-len-end.true, c.len.ensures, c.loop-neighbour.order.ok.0) in
          let io : c.if-len-end.order.items ≡ order ++ z ∷ [] = ap (λ (v : Vec ℕ Global). v.items) w.order-is ∙ w.in_ok-push.ensures.items in
          rw (io, w.seen-is) (record {
            walk = walk_push n near order seen 0 z inv.walk (omega arith) lz f;
            more = omega (arith, p, inv.more);
            end = omega (arith, p, short);
            here = get_or_append_left order (z ∷ []) 0 c.args.head lh ∙ inv.here;
            done = λ s. done_set seen items i ls (inv.done short);
            kept = λ y t. marked_set seen z y ls (inv.kept y t);
            grown = λ ranks q ee b grow. (
                let was = inv.grown ranks q ee b grow in
                let s : length order < block_start n ranks (q + 1) = subst (λ v. length order < v) ee short in
                growing_push n ranks near q c.args.head order seen z ls (omega (arith, lh)) was s
                (next_near_free n ranks near q c.args.head order seen (block_start n ranks q) i items refl inv.walk was s b lh
                c.loop-neighbour-test.true lz (subst (λ v. near v z ≡ true) (sym inv.here) nz) f
                (λ y t fy. u.all y (subst (λ v. near v y ≡ true) inv.here t) (before c.args.seen.now seen y inv.kept fy)) (inv.done short) (by_number items u.rises)));
          }))
      | else-len-end w ↦
          (rw (w.order-is, w.seen-is) (record {
            walk = inv.walk;
            more = inv.more;
            end = inv.end;
            here = inv.here;
            done = λ s. elim w.else-len-end.branch [
              | else-len-end-via-then-len-end+else-not-seen-neighbour w' ↦ done_more seen items i w'.if-not-seen-neighbour.false (inv.done s)
              | else-len-end-via-else-len-end w' ↦ absurd (omega (arith, s, w'.if-len-end.false, c.len.ensures, c.loop-neighbour.order.ok.0))
            ];
            kept = inv.kept;
            grown = inv.grown;
          }))
    ]

pub returns-clause-grown : goal.returns-clause-grown
returns-clause-grown c = λ ranks q ee b grow.
    let g = c.args.mesh.now in
    let m : ℕ = c.args.map in
    let near = are_neighbours g m in
    let order : List ℕ = c.loop-neighbour.order.items in
    let items : List ℕ = c.as_slice-neighbour-items.result.now in
    let x : ℕ = get_or c.args.order.now.items c.args.head 0 in
    let inv = c.loop-neighbour.invariant in
    let u : AreUnseen g m x c.args.seen.now [] items = found g m x c.index.result.now c.args.seen.now c.unseen_neighbours.new.found.items
    items (get_or_read c.args.order.now.items c.args.head c.index.result.now c.requires.head c.index.ensures 0)
    c.as_slice-neighbour-items.ensures.value c.in_ok-unseen_neighbours.ensures in
    growing_closed (set_size g (map_to g m)) ranks near q c.args.head order c.loop-neighbour.seen (inv.grown ranks q ee b grow)
    (λ s y t. all_done (near x) c.args.seen.now c.loop-neighbour.seen items u.all inv.kept
    (λ i l. inv.done (subst (λ v. length order < v) (sym ee) s) i (omega arith)) y (subst (λ v. near v y ≡ true) inv.here t))
