use Rattle.std.proofs.Common.{◌≡◌, ◌<◌, ◌+◌, ◌^◌, ℕ, List, length, get_or, arith, ap, ◌∙◌}
use Rattle.std.proofs.lemmas.List.{with_items_is}
use Rattle.mesh_decl.specs.Mesh.{MeshValue, set_size, map_from, map_to, map_dim}
use Rattle.renumber.specs.Neighbours.{havers}
use Rattle.renumber.proofs.breadth_order.Having.{length_more, length_within}
use Rattle.renumber.proofs.breadth_order.by_target.target_counts.Goals as goal

-- the counts so far and one more element's fit
fits : (g : MeshValue) (m e x n v : ℕ) → map_dim g m < 2 ^ 32 → n < 2 ^ 32 → e < n → v ≡ length (havers g m e x) → v + map_dim g m < 2 ^ 64
fits g m e x n v d s l h = let w = length_within g m e x d in omega (arith, d, s, l, h, w)

pub count_targets-requires-clause-few : goal.count_targets-requires-clause-few
count_targets-requires-clause-few c = λ x l.
    let g = c.args.mesh.now in
    let m : ℕ = c.args.map in
    let inv = c.loop-element.invariant in
    let v : get_or c.deref_mut.result.now x 0 ≡ get_or c.loop-element.counts.items x 0 = ap (λ (z : List ℕ). get_or z x 0) c.deref_mut.ensures.value in
    let lx : x < set_size g (map_to g m) = omega (arith, l, c.deref_mut.ensures.len, c.loop-element.counts.ok.0, inv.0) in
    let from : c.set_size-element-end.result ≡ set_size g (map_from g m) = c.set_size-element-end.ensures ∙ ap (set_size g) (ap (λ z. z.0) c.map_ends-from.ensures) in
    fits g m c.loop-element.element x (set_size g (map_from g m)) (get_or c.deref_mut.result.now x 0) c.requires.at.dim
    (c.requires.sizes (map_from g m)) (omega (arith, from, c.loop-element-test.true)) (v ∙ inv.1 x lx)

pub loop-element-preserved : goal.loop-element-preserved
loop-element-preserved c =
    let g = c.args.mesh.now in
    let m : ℕ = c.args.map in
    let v = c.loop-element.counts in
    let news = c.count_targets.new.counts in
    let inv = c.loop-element.invariant in
    let n : length news ≡ v.len = omega (arith, c.count_targets.auto.counts, c.deref_mut.ensures.len) in
    let same : length news ≡ set_size g (map_to g m) = omega (arith, n, v.ok.0, inv.0) in
    rw (with_items_is v news n) (
      same,
      λ x l. (
          let a = c.count_targets.ensures x (omega (arith, c.count_targets.auto.counts, same, l)) in
          let b : get_or c.deref_mut.result.now x 0 ≡ get_or v.items x 0 = ap (λ (z : List ℕ). get_or z x 0) c.deref_mut.ensures.value in
          let d = inv.1 x l in
          let e = length_more g m c.loop-element.element x in
          omega (arith, a, b, d, e)),
    )
