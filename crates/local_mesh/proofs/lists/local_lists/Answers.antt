use Rattle.std.proofs.Common.{◌≡◌, ◌<◌, ℕ, length, get_or, arith, subst, ◌∙◌}
use Rattle.std.proofs.lemmas.List.{length_push, get_or_default}
use Rattle.mesh_decl.specs.Mesh.{set_count, IsInRange}
use Rattle.local_mesh.specs.declared.halo_lists.types.SetHalo.{SetHalo}
use Rattle.local_mesh.specs.declared.lists.LocalLists.{LocalLists}
use Rattle.local_mesh.specs.Lists.{IsLocalLists}
use Rattle.local_mesh.proofs.Held.{all_held}
use Rattle.local_mesh.proofs.Growing.{each_more}
use Rattle.local_mesh.proofs.lists.local_lists.Goals as goal

pub set_lists-requires-clause-held : goal.set_lists-requires-clause-held
set_lists-requires-clause-held c =
    let g = c.args.mesh.now in
    let o = c.args.owners.now in
    let d = c.requires.meshes in
    let range : IsInRange g = c.is_in_range.ensures in
    let l : c.loop-set.set < set_count g = omega (arith, c.set_count-set-end.ensures.count, c.loop-set-test.true, c.loop-set.auto.set-end) in
    all_held g o d.0 d.1 c.loop-set.set l c.args.meshes.now d.2 (λ r m is. c.rank_meshes_are_closed.ensures g o d.0 r m range d.1 is)

pub loop-set-preserved : goal.loop-set-preserved
loop-set-preserved c =
    let g = c.args.mesh.now in
    let s : ℕ = c.loop-set.set in
    let xs = c.loop-set.lists.items in
    let v = c.in_ok-set_lists.field-0 in
    let hs = c.args.halos.now.sets.items in
    let l : s < length hs = omega (arith, c.set_count-set-end.ensures.count, c.loop-set-test.true, c.loop-set.auto.set-end, c.requires.halos.count) in
    let P : ℕ → LocalLists → Type 0 = λ q t. (d : SetHalo) → IsLocalLists g c.args.owners.now c.args.meshes.now q (get_or hs q d) t in
    let here : P s v = λ d. subst (λ (z : SetHalo). IsLocalLists g c.args.owners.now c.args.meshes.now s z v)
    (c.index-halo.ensures ∙ get_or_default hs s c.index-halo.result.now d l) c.in_ok-set_lists.ensures in
    rw c.in_ok-push.ensures.items (
      omega (arith, length_push xs v, c.loop-set.invariant.0),
      each_more xs v s P c.loop-set.invariant.0 here c.loop-set.invariant.1,
    )

pub returns : goal.returns
returns c =
    let n : c.loop-set.set ≡ set_count c.args.mesh.now = omega (arith, c.set_count-set-end.ensures.count, c.loop-set-test.false, c.loop-set.auto.set-end) in
    record {
      count = c.loop-set.invariant.0 ∙ n;
      sets = λ s d e l. c.loop-set.invariant.1 s e (omega arith) d;
    }
