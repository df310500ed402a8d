use Rattle.std.proofs.Common.{◌≡◌, ◌<◌, ◌∙◌, ℕ, List, Bool, length, arith, sym, ap, subst}
use Rattle.std.proofs.lemmas.List.{length_push}
use Rattle.mesh_decl.specs.Mesh.{set_count, set_size}
use Rattle.mesh_decl.specs.Owners.{IsNumbering}
use Rattle.local_mesh.specs.declared.halo_lists.types.SetHalo.{SetHalo}
use Rattle.local_mesh.specs.Halos.{IsSetHalo}
use Rattle.local_mesh.specs.LocalMesh.{IsLocalSet}
use Rattle.local_mesh.proofs.Growing.{each_more}
use Rattle.local_mesh.proofs.OneRank.{whole_is}
use Rattle.local_mesh.proofs.whole.whole_sets.Goals as goal

pub whole_set-requires-clause-order : goal.whole_set-requires-clause-order
whole_set-requires-clause-order c =
    let g = c.args.mesh.now in
    let o = c.args.owners.now in
    let s = c.loop-set.set in
    let ls : s < set_count g = omega (arith, c.set_count-set-end.ensures.count) in
    let h = c.index.result.now in
    let halo : IsSetHalo g o s h = subst (λ (z : SetHalo). IsSetHalo g o s z) (sym c.index.ensures) (c.requires.halos.sets s h ls) in
    let n : length c.as_slice-core.result.now ≡ set_size g s = ap (length {A = Bool}) c.as_slice-core.ensures.value ∙ halo.core_count in
    subst (λ z. IsNumbering z c.of_set.result.now) (sym n) (subst (λ (z : List ℕ). IsNumbering (set_size g s) z) (sym c.of_set.ensures) (c.requires.perms.numbers s ls))

pub whole_set-requires-clause-few : goal.whole_set-requires-clause-few
whole_set-requires-clause-few c =
    let g = c.args.mesh.now in
    let o = c.args.owners.now in
    let s = c.loop-set.set in
    let ls : s < set_count g = omega (arith, c.set_count-set-end.ensures.count) in
    let h = c.index.result.now in
    let halo : IsSetHalo g o s h = subst (λ (z : SetHalo). IsSetHalo g o s z) (sym c.index.ensures) (c.requires.halos.sets s h ls) in
    let n : length c.as_slice-core.result.now ≡ set_size g s = ap (length {A = Bool}) c.as_slice-core.ensures.value ∙ halo.core_count in
    rw n (c.set_count-set-end.ensures.sizes s)

pub whole_set-requires-clause-room : goal.whole_set-requires-clause-room
whole_set-requires-clause-room c =
    let g = c.args.mesh.now in
    let o = c.args.owners.now in
    let s = c.loop-set.set in
    let ls : s < set_count g = omega (arith, c.set_count-set-end.ensures.count) in
    let h = c.index.result.now in
    let halo : IsSetHalo g o s h = subst (λ (z : SetHalo). IsSetHalo g o s z) (sym c.index.ensures) (c.requires.halos.sets s h ls) in
    let n : length c.as_slice-core.result.now ≡ set_size g s = ap (length {A = Bool}) c.as_slice-core.ensures.value ∙ halo.core_count in
    omega (arith, n, c.requires.room s ls, c.loop-set.auto.scratch)

pub loop-set-preserved : goal.loop-set-preserved
loop-set-preserved c =
    let p = c.args.perms.now in
    let g = c.args.mesh.now in
    let o = c.args.owners.now in
    let s = c.loop-set.set in
    let ls : s < set_count g = omega (arith, c.set_count-set-end.ensures.count) in
    let h = c.index.result.now in
    let halo : IsSetHalo g o s h = subst (λ (z : SetHalo). IsSetHalo g o s z) (sym c.index.ensures) (c.requires.halos.sets s h ls) in
    let xs = c.loop-set.sets.items in
    let v = c.in_ok-whole_set.field-0 in
    rw c.in_ok-push.ensures.items (
      omega (arith, length_push xs v, c.loop-set.invariant.0),
      each_more xs v s (λ k l. IsLocalSet g o p k 0 l) c.loop-set.invariant.0
          (whole_is g o p s c.requires.owners c.requires.one ls (c.requires.perms.numbers s ls) h c.of_set.result.now
          c.as_slice-core.result.now v halo c.of_set.ensures c.as_slice-core.ensures.value c.in_ok-whole_set.ensures)
          c.loop-set.invariant.1,
    )
