use Rattle.std.proofs.Common.{◌≡◌, ◌<◌, ℕ, Bool, true, false, not, arith, length, get_or, List, Vec, ap, sym, ◌∙◌}
use Rattle.std.specs.declared.alloc.Global.{Global}
use Rattle.std.specs.List.{count_by}
use Rattle.std.specs.Vec.{with_item}
use Rattle.std.proofs.lemmas.List.{with_items_is, get_or_read}
use Rattle.mesh_decl.specs.Mesh.{set_size, map_to}
use Rattle.renumber.specs.Keys.{keyed}
use Rattle.renumber.specs.Neighbours.{are_neighbours}
use Rattle.renumber.proofs.breadth_order.Walk.{next_start, walk_push, taken_push, done_set, done_more, none_left, all_marked}
use Rattle.renumber.proofs.breadth_order.breadth_first.Goals as goal
use Rattle.renumber.proofs.breadth_order.breadth_first.Goals.{then-not-index+in_ok-push+in_ok-take_reached, else-not-index}

-- a mark that was read as false
unread : (seen : List Bool) (z : ℕ) (b : Bool) → z < length seen → b ≡ get_or seen z b → b ≡ false → get_or seen z false ≡ false
unread seen z b l r f = sym (get_or_read seen z b l r false) ∙ f

read : (seen : List Bool) (z : ℕ) (b : Bool) → z < length seen → b ≡ get_or seen z b → b ≡ true → get_or seen z false ≡ true
read seen z b l r t = sym (get_or_read seen z b l r false) ∙ t

pub take_reached-requires-clause-walk : goal.take_reached-requires-clause-walk
take_reached-requires-clause-walk c =
    let g = c.args.mesh.now in
    let m : ℕ = c.args.map in
    let n : ℕ = set_size g (map_to g m) in
    let z : ℕ = get_or c.args.starts.now c.loop-start.start-index 0 in
    let order : List ℕ = c.loop-start.order.items in
    let seen : List Bool = c.loop-start.seen.items in
    let w = c.loop-start.invariant.walk in
    let lz : z < n = c.requires.starts c.loop-start.start-index c.loop-start-test.true in
    let ls : z < length seen = rw w.size lz in
    let from : c.len-from.result ≡ length order = omega (arith, c.len-from.ensures, c.loop-start.order.ok.0) in
    rw (c.in_ok-push.ensures.items, c.deref_mut.ensures.value, from)
    (walk_push n (are_neighbours g m) order seen (length order) z w (omega arith) lz (unread seen z c.index.result.now ls c.index.ensures c.if-not-index.true))

pub loop-start-preserved : goal.loop-start-preserved
loop-start-preserved c =
    let g = c.args.mesh.now in
    let m : ℕ = c.args.map in
    let n : ℕ = set_size g (map_to g m) in
    let near = are_neighbours g m in
    let i : ℕ = c.loop-start.start-index in
    let z : ℕ = get_or c.args.starts.now i 0 in
    let order : List ℕ = c.loop-start.order.items in
    let seen : List Bool = c.loop-start.seen.items in
    let inv = c.loop-start.invariant in
    let lz : z < n = c.requires.starts i c.loop-start-test.true in
    let ls : z < length seen = rw inv.walk.size lz in
    elim c.if-not-index.branch [
      | then-not-index+in_ok-push+in_ok-take_reached w ↦
          (let f : get_or seen z false ≡ false = unread seen z c.index.result.now ls c.index.ensures w.if-not-index.true in
          let ens = w.in_ok-take_reached.ensures in
          let io : c.if-not-index.order.items ≡ w.take_reached.new.order.items = ap (λ (v : Vec ℕ Global). v.items) w.order-is in
          let is : c.if-not-index.seen.items ≡ w.take_reached.new.seen = ap (λ (v : Vec Bool Global). v.items) w.seen-is
          ∙ with_items_is (with_item c.loop-start.seen z true) w.take_reached.new.seen
          (w.take_reached.auto.seen ∙ w.deref_mut.ensures.len) in
          rw (io, is) (record {
            walk = ens.walk;
            done = λ j lj. ens.kept (get_or c.args.starts.now j 0) (rw w.deref_mut.ensures.value (done_set seen c.args.starts.now i ls inv.done j lj));
            taken = ens.taken (rw w.in_ok-push.ensures.items (taken_push n near (keyed c.args.keys.now) order z inv.taken
                (next_start n near (keyed c.args.keys.now) order seen c.args.starts.now i inv.walk c.loop-start-test.true lz f c.requires.all inv.done c.requires.rises)));
          }))
      | else-not-index w ↦
          (rw (w.order-is, w.seen-is) (record {
            walk = inv.walk;
            done = done_more seen c.args.starts.now i (read seen z c.index.result.now ls c.index.ensures w.if-not-index.false) inv.done;
            taken = inv.taken;
          }))
    ]

pub returns-clause-length : goal.returns-clause-length
returns-clause-length c =
    let w = c.loop-start.invariant.walk in
    let n : ℕ = set_size c.args.mesh.now (map_to c.args.mesh.now c.args.map) in
    let z : count_by (λ b. not b) c.loop-start.seen.items ≡ 0 =
    none_left c.loop-start.seen.items
    (λ y l. all_marked n c.args.starts.now c.loop-start.seen.items c.requires.all (λ i k. c.loop-start.invariant.done i (omega arith)) y
    (rw (← w.size) l)) in
    omega (arith, w.count)

pub returns-clause-all : goal.returns-clause-all
returns-clause-all c =
    let n : ℕ = set_size c.args.mesh.now (map_to c.args.mesh.now c.args.map) in
    λ y l. c.loop-start.invariant.walk.taken y l (all_marked n c.args.starts.now c.loop-start.seen.items c.requires.all (λ i k. c.loop-start.invariant.done i (omega arith)) y l)
