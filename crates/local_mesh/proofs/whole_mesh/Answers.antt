use Rattle.std.proofs.Common.{◌≡◌, List, [], ◌∷◌, ◌++◌, get_or, arith, sym, ap, subst, ◌∙◌}
use Rattle.local_mesh.specs.declared.types.RankMesh.{RankMesh}
use Rattle.local_mesh.specs.LocalMesh.{IsRankMesh}
use Rattle.local_mesh.proofs.Closing.{sets_closed}
use Rattle.local_mesh.proofs.MadeMesh.{made_is}
use Rattle.local_mesh.proofs.whole_mesh.Goals as goal

pub rank_mesh-requires-clause-closed : goal.rank_mesh-requires-clause-closed
rank_mesh-requires-clause-closed c =
    let f = c.in_ok-sets.ensures in
    sets_closed c.args.mesh.now c.args.owners.now c.args.perms.now 0 c.in_ok-sets.sets.items f.count c.requires.perms f.sets
    c.is_in_range.ensures.sizes c.is_in_range.ensures.maps
    (λ m x i. c.executed_targets_are_copies.ensures c.args.mesh.now c.args.owners.now m x i 0)

pub returns : goal.returns
returns c =
    let g = c.args.mesh.now in
    let o = c.args.owners.now in
    let p = c.args.perms.now in
    let f = c.in_ok-sets.ensures in
    let k = c.in_ok-rank.ensures in
    let mesh = made_is g o p 0 c.in_ok-sets.sets.items c.in_ok-rank.rank f.count f.sets k.sets k.maps_count k.maps k.bases in
    let rank = c.in_ok-rank.rank in
    let only : c.push.new.self.items ≡ c.in_ok-rank.rank ∷ [] = c.in_ok-push.ensures.items ∙ ap (λ (z : List RankMesh). z ++ rank ∷ []) c.new-ranks.ensures.items in
    rw only (record {
      count = sym c.requires.one;
      ranks = λ r d l. (
          let e : r ≡ 0 = omega (arith, c.requires.one, l) in
          subst (λ z. IsRankMesh g o p z (get_or (rank ∷ []) z d)) (sym e) mesh);
    })
