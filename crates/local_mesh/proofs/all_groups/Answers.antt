use Rattle.std.proofs.Common.{◌<◌, arith, sym, subst}
use Rattle.std.proofs.lemmas.List.{length_push}
use Rattle.mesh_decl.specs.Mesh.{set_count}
use Rattle.local_mesh.specs.declared.halo_lists.types.SetHalo.{SetHalo}
use Rattle.local_mesh.specs.Halos.{IsSetHalo}
use Rattle.local_mesh.specs.Parts.{AreGroups}
use Rattle.local_mesh.proofs.Growing.{each_more}
use Rattle.local_mesh.proofs.all_groups.Goals as goal

pub groups_of-requires-clause-halo : goal.groups_of-requires-clause-halo
groups_of-requires-clause-halo c =
    let g = c.args.mesh.now in
    let o = c.args.owners.now in
    let s = c.loop-set.set in
    let ls : s < set_count g = omega (arith, c.set_count-set-end.ensures.count) in
    subst (λ (z : SetHalo). IsSetHalo g o s z) (sym c.index-halo.ensures) (c.requires.halos.sets s c.index-halo.result.now ls)

pub loop-set-preserved : goal.loop-set-preserved
loop-set-preserved c =
    let xs = c.loop-set.groups.items in
    let t = c.in_ok-groups_of.field-0 in
    rw c.in_ok-push.ensures.items (
      omega (arith, length_push xs t, c.loop-set.invariant.0),
      each_more xs t c.loop-set.set (AreGroups c.args.mesh.now c.args.owners.now c.args.perms.now) c.loop-set.invariant.0 c.in_ok-groups_of.ensures c.loop-set.invariant.1,
    )
