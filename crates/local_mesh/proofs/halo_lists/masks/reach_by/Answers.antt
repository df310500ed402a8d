use Rattle.std.proofs.Common.{◌≡◌, ◌<◌, ◌||◌, ℕ, length, ap, ◌∙◌, arith}
use Rattle.mesh_decl.specs.Mesh.{set_size}
use Rattle.local_mesh.specs.RankSet.{has, has_at}
use Rattle.local_mesh.specs.Halo.{reaches_by}
use Rattle.local_mesh.proofs.halo_lists.Steps.{set_more, set_kept}
use Rattle.local_mesh.proofs.halo_lists.masks.reach_by.Goals as goal

pub loop-element-preserved : goal.loop-element-preserved
unfolding has_at
loop-element-preserved c =
    let now = c.loop-element.sets in
    let at : ℕ = c.loop-element.element in
    let reached : ℕ → ℕ → _ = reaches_by c.args.mesh.now c.args.owners.now c.args.map in
    let within : at < length now = omega (
      arith,
      c.loop-element-test.true,
      c.loop-element.auto.sets,
      c.requires.length,
      c.set_size-element-end.ensures,
      ap (λ (z : ℕ × ℕ × ℕ). set_size c.args.mesh.now z.0) c.map_ends-from.ensures,
    ) in
    let more : (r : ℕ) → has c.union.result r ≡ (has_at now at r || reached at r) = λ r. c.union.ensures r ∙ ap (λ z. has_at now at r || z) (c.owners_by-reached.ensures r) in (
      set_more now c.args.sets.now at c.union.result reached within more c.loop-element.invariant.0 c.loop-element.invariant.1,
      set_kept now c.args.sets.now at c.union.result c.loop-element.invariant.1,
    )
