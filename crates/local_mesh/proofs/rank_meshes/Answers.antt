use Rattle.std.proofs.Common.{◌≡◌, ◌<◌, ◌≤◌, ◌∙◌, ℕ, List, length, get_or, arith, ap, subst}
use Rattle.std.proofs.lemmas.List.{length_push}
use Rattle.mesh_decl.specs.declared.owners.Owners.{Owners}
use Rattle.mesh_decl.specs.declared.owners.Perms.{Perms}
use Rattle.mesh_decl.specs.Mesh.{MeshValue, set_count, set_size}
use Rattle.mesh_decl.specs.Owners.{ArePerms}
use Rattle.mesh_decl.proofs.Public.{some_in}
use Rattle.local_mesh.specs.declared.halo_lists.types.SetHalo.{SetHalo}
use Rattle.local_mesh.specs.Halos.{IsSetHalo}
use Rattle.local_mesh.specs.declared.types.Groups.{Groups}
use Rattle.local_mesh.specs.declared.types.LocalSet.{LocalSet}
use Rattle.local_mesh.specs.Parts.{AreGroups, IsJoinedFrom}
use Rattle.local_mesh.specs.LocalMesh.{IsLocalSet, IsRankMesh}
use Rattle.local_mesh.proofs.Growing.{each_more}
use Rattle.local_mesh.proofs.Joining.{ready, set_joined}
use Rattle.local_mesh.proofs.Closing.{sets_closed}
use Rattle.local_mesh.proofs.MadeMesh.{made_is}
use Rattle.local_mesh.proofs.rank_meshes.Goals as goal

-- the sets of a rank, joined from the groups that the code reads
sets_are : (g : MeshValue) (o : Owners) (p : Perms) (r : ℕ) (groups now : List Groups) (halos : List SetHalo) (sets : List LocalSet)
    → r < o.ranks → now ≡ groups → length groups ≡ set_count g → length halos ≡ set_count g
    → ((s : ℕ) (t : Groups) → s < set_count g → AreGroups g o p s (get_or groups s t))
    → ((s : ℕ) (h : SetHalo) → s < set_count g → IsSetHalo g o s (get_or halos s h)) → ArePerms g p
    → ((s : ℕ) (t : Groups) (h : SetHalo) (d : LocalSet) → s < length now
    → IsJoinedFrom r (get_or now s t) (get_or halos s h) (get_or sets s d)) → (s : ℕ) (d : LocalSet) → s < set_count g
    → IsLocalSet g o p s r (get_or sets s d)
sets_are g o p r groups now halos sets lr e n m are halo perms joined s d l =
    let lg : s < length groups = rw n l in
    let lh : s < length halos = rw m l in
    let t = some_in groups s lg in
    let h = some_in halos s lh in
    let j = subst (λ (z : List Groups). (s : ℕ) (t : Groups) (h : SetHalo) (d : LocalSet) → s < length z → IsJoinedFrom r (get_or z s t) (get_or halos s h) (get_or sets s d)) e joined in
    set_joined g o p s r (get_or groups s t) (are s t l) lr (perms.numbers s l) (get_or halos s h) (get_or sets s d) (halo s h l) (j s t h d lg)

pub local_sets-requires-clause-ready : goal.local_sets-requires-clause-ready
local_sets-requires-clause-ready c =
    let g = c.args.mesh.now in
    let e = c.in_ok-groups.ensures in
    rw c.deref.ensures.value (λ s t h l. (
    let ls : s < set_count g = rw (← e.count) l in
    let room : set_size g s ≤ length c.loop-rank.scratch = (let q = c.requires.scratch s ls in omega (arith, c.loop-rank.auto.scratch)) in
    ready g c.args.owners.now c.args.perms.now s c.loop-rank.rank (get_or c.in_ok-groups.groups.items s t) (e.groups s t ls)
    c.loop-rank-test.true (c.requires.perms.numbers s ls) (c.is_in_range.ensures.sizes s) (get_or c.args.halos.now.sets.items s h)
    (length c.loop-rank.scratch) (c.requires.halos.sets s h ls) room))

pub rank_mesh-requires-clause-closed : goal.rank_mesh-requires-clause-closed
rank_mesh-requires-clause-closed c =
    let g = c.args.mesh.now in
    let o = c.args.owners.now in
    let p = c.args.perms.now in
    let r = c.loop-rank.rank in
    let e = c.in_ok-groups.ensures in
    let f = c.in_ok-sets.ensures in
    let n : length c.in_ok-sets.sets.items ≡ set_count g = f.count ∙ (ap (length {A = Groups}) c.deref.ensures.value ∙ e.count) in
    let is = sets_are g o p r c.in_ok-groups.groups.items c.deref.result.now c.args.halos.now.sets.items c.in_ok-sets.sets.items
    c.loop-rank-test.true c.deref.ensures.value e.count c.requires.halos.count e.groups c.requires.halos.sets c.requires.perms f.joined
    in
    sets_closed g o p r c.in_ok-sets.sets.items n c.requires.perms is c.is_in_range.ensures.sizes c.is_in_range.ensures.maps (λ m x i. c.executed_targets_are_copies.ensures g o m x i r)

pub loop-rank-preserved : goal.loop-rank-preserved
loop-rank-preserved c =
    let g = c.args.mesh.now in
    let o = c.args.owners.now in
    let p = c.args.perms.now in
    let r = c.loop-rank.rank in
    let e = c.in_ok-groups.ensures in
    let f = c.in_ok-sets.ensures in
    let k = c.in_ok-rank_mesh.ensures in
    let v = c.in_ok-rank_mesh.field-0 in
    let sets = c.in_ok-sets.sets.items in
    let n : length sets ≡ set_count g = f.count ∙ (ap (length {A = Groups}) c.deref.ensures.value ∙ e.count) in
    let is = sets_are g o p r c.in_ok-groups.groups.items c.deref.result.now c.args.halos.now.sets.items sets c.loop-rank-test.true
    c.deref.ensures.value e.count c.requires.halos.count e.groups c.requires.halos.sets c.requires.perms f.joined in
    let xs = c.loop-rank.ranks.items in
    rw c.in_ok-push.ensures.items (
      omega (arith, length_push xs v, c.loop-rank.invariant.0),
      each_more xs v r (IsRankMesh g o p) c.loop-rank.invariant.0 (made_is g o p r sets v n is k.sets k.maps_count k.maps k.bases) c.loop-rank.invariant.1,
    )
