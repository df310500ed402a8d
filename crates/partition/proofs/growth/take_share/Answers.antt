use Rattle.std.proofs.Common.{◌≡◌, ◌<◌, ◌++◌, ◌∷◌, [], ℕ, arith, length, List, Vec, ap, ◌∙◌}
use Rattle.std.specs.declared.alloc.Global.{Global}
use Rattle.std.proofs.lemmas.List.{length_push}
use Rattle.mesh_decl.specs.Mesh.{set_size, map_to}
use Rattle.renumber.specs.Neighbours.{are_neighbours}
use Rattle.partition.proofs.Giving.{IsShare, share_start}
use Rattle.partition.proofs.growth.take_share.Goals as goal
use Rattle.partition.proofs.growth.take_share.Goals.{then-head-len+in_ok-push, else-head-len}

pub take_neighbours-requires-clause-walk : goal.take_neighbours-requires-clause-walk
take_neighbours-requires-clause-walk c =
    let g' = c.args.mesh.now in
    let near = are_neighbours g' c.args.map in
    let n : ℕ = set_size g' (map_to g' c.args.map) in
    let order : List ℕ = c.loop-order.order.items in
    let inv = c.loop-order.invariant in
    let short : length order < c.args.end = omega (arith, c.loop-order-test.true, c.len.ensures, c.loop-order.order.ok.0) in
    elim c.if-head-len.branch [
      | then-head-len+in_ok-push w ↦
          (let io : c.if-head-len.order.items ≡ order ++ w.least_free-least.result ∷ [] = ap (λ (v : Vec ℕ Global). v.items) w.order-is ∙ w.in_ok-push.ensures.items in
          rw (io, w.seen-is) (share_start n near c.args.end c.loop-order.head c.loop-order.least c.args.order.now.items order
          c.loop-order.seen w.least_free-least.result inv short
          (omega (arith, w.if-head-len.true, c.len-in-loop-order.ensures, c.loop-order.order.ok.0)) w.least_free-least.ensures.within
          w.least_free-least.ensures.free w.least_free-least.ensures.before).walk)
      | else-head-len w ↦ rw (w.order-is, w.seen-is) inv.walk
    ]

pub loop-order-preserved : goal.loop-order-preserved
loop-order-preserved c =
    let g' = c.args.mesh.now in
    let near = are_neighbours g' c.args.map in
    let n : ℕ = set_size g' (map_to g' c.args.map) in
    let order : List ℕ = c.loop-order.order.items in
    let inv = c.loop-order.invariant in
    let short : length order < c.args.end = omega (arith, c.loop-order-test.true, c.len.ensures, c.loop-order.order.ok.0) in
    let mid : IsShare n near c.args.end c.loop-order.head c.if-head-len.least c.args.order.now.items c.if-head-len.order.items c.if-head-len.seen = elim c.if-head-len.branch [
      | then-head-len+in_ok-push w ↦
          (let io : c.if-head-len.order.items ≡ order ++ w.least_free-least.result ∷ [] = ap (λ (v : Vec ℕ Global). v.items) w.order-is ∙ w.in_ok-push.ensures.items in
          rw (io, w.seen-is, w.least-is) (share_start n near c.args.end c.loop-order.head c.loop-order.least c.args.order.now.items order
          c.loop-order.seen w.least_free-least.result inv short
          (omega (arith, w.if-head-len.true, c.len-in-loop-order.ensures, c.loop-order.order.ok.0)) w.least_free-least.ensures.within
          w.least_free-least.ensures.free w.least_free-least.ensures.before))
      | else-head-len w ↦ rw (w.order-is, w.seen-is, w.least-is) inv
    ] in
    let here : c.loop-order.head < length c.if-head-len.order.items = elim c.if-head-len.branch [
      | then-head-len+in_ok-push w ↦
          (let io : c.if-head-len.order.items ≡ order ++ w.least_free-least.result ∷ [] = ap (λ (v : Vec ℕ Global). v.items) w.order-is ∙ w.in_ok-push.ensures.items in
          let p = length_push order w.least_free-least.result in
          rw io (omega (arith, p, inv.reached)))
      | else-head-len w ↦ rw w.order-is (omega (arith, w.if-head-len.false, c.len-in-loop-order.ensures, c.loop-order.order.ok.0, inv.reached))
    ] in
    let ens = c.in_ok-take_neighbours.ensures in
    record {
      walk = ens.walk;
      reached = omega (arith, here, ens.more);
      few = ens.end;
      before = λ y l. ens.kept y (mid.before y l);
      grown = λ ranks i r ee ef nx. (
          let g = mid.grown ranks i r ee ef nx in
          (omega (arith, g.0), ens.grown ranks i ee g.0 g.1));
    }

pub returns-clause-grown : goal.returns-clause-grown
returns-clause-grown c = λ ranks i r ee ef nx. (c.loop-order.invariant.grown ranks i r ee ef nx).1.next
