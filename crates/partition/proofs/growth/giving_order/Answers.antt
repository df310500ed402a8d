use Rattle.std.proofs.Common.{◌≡◌, ℕ, ◌+◌, ◌*◌, ◌/◌, ap, ◌∙◌}
use Rattle.std.proofs.lemmas.List.{with_items_is}
use Rattle.mesh_decl.specs.Mesh.{set_size, map_to}
use Rattle.renumber.specs.Neighbours.{are_neighbours}
use Rattle.partition.proofs.Giving.{apart}
use Rattle.partition.proofs.growth.giving_order.Goals as goal

pub loop-rank-preserved : goal.loop-rank-preserved
loop-rank-preserved c =
    let g = c.args.mesh.now in
    let m : ℕ = c.args.map in
    let rank : ℕ = c.loop-rank.rank in
    let ranks : ℕ = c.args.ranks in
    let size : c.set_size-size.result ≡ set_size g (map_to g m) = c.set_size-size.ensures ∙ ap (set_size g) (ap (λ z. z.1) c.map_ends-to.ensures) in
    let end : (rank + 1) * c.set_size-size.result / ranks ≡ (rank + 1) * set_size g (map_to g m) / ranks = ap (λ z. (rank + 1) * z / ranks) size in
    let inv = c.loop-rank.invariant in
    let ens = c.in_ok-least.ensures in
    rw (with_items_is c.loop-rank.seen c.take_share.new.seen (c.take_share.auto.seen ∙ c.deref_mut.ensures.len)) (record {
      walk = ens.walk;
      many = ens.end ∙ end;
      before = ens.before;
      next = ens.grown c.args.ranks rank c.requires.some end inv.many inv.next;
    })

pub returns-clause-apart : goal.returns-clause-apart
returns-clause-apart c =
    let g = c.args.mesh.now in
    apart (set_size g (map_to g c.args.map)) c.args.ranks c.loop-rank.rank (are_neighbours g c.args.map) c.loop-rank.order.items c.loop-rank.invariant.next c.loop-rank.invariant.many
