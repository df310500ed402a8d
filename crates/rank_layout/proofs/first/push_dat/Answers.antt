use Rattle.std.proofs.Common.{◌≤◌, ◌+◌, ◌*◌, ℕ, ℤ, List, All, length, sym, subst}
use Rattle.mesh_decl.specs.Mesh.{dat_values}
use Rattle.local_mesh.specs.declared.types.LocalSet.{LocalSet}
use Rattle.local_mesh.specs.LocalMesh.{originals_in}
use Rattle.rank_layout.proofs.FirstCells.{all_inside}
use Rattle.rank_layout.proofs.first.push_dat.Goals as goal

pub push_elements-requires : goal.push_elements-requires
push_elements-requires c =
    let g = c.args.mesh.now in
    let sets = c.args.part.now.sets.items in
    let q = c.dat_shape-set.result in
    let all = all_inside g c.args.part.now c.dat_count.ensures.dats c.requires.closed c.args.dat c.requires.dat in
    subst (λ (vs : List ℤ). All (λ x. x * q.1 + q.1 ≤ length vs) c.originals_of-elements.result.now) (sym c.dat_values.ensures)
    (subst (λ (xs : List ℕ). All (λ x. x * q.1 + q.1 ≤ length (dat_values g c.args.dat)) xs) (sym c.originals_of-elements.ensures)
    (subst (λ (ss : List LocalSet). All (λ x. x * q.1 + q.1 ≤ length (dat_values g c.args.dat)) (originals_in ss q.0)) (sym c.deref.ensures.value)
    (subst (λ (z : ℕ × ℕ). All (λ x. x * z.1 + z.1 ≤ length (dat_values g c.args.dat)) (originals_in sets z.0)) (sym c.dat_shape-set.ensures) all)))
