use Rattle.std.proofs.Common.{◌≡◌, ◌<◌, ◌≤◌, ◌*◌, length, sym, ap, subst, ◌∙◌, rules}
use Rattle.mesh_decl.specs.Mesh.{dat_set, dat_dim}
use Rattle.local_mesh.specs.LocalMesh.{originals_in}
use Rattle.run_model.proofs.gather.Held.{originals_read, dat_printed}
use Rattle.run_model.proofs.gather.dumps.put_dat.Goals as goal

pub put_copies-requires : goal.put_copies-requires
put_copies-requires c =
    let lt : c.dat_shape-set.result.0 < length c.args.part.now.sets.items = search rules in
    let e : c.dat_shape-set.result.0 ≡ dat_set c.args.mesh.now c.args.dat = search rules in
    let d : c.dat_shape-set.result.1 ≡ dat_dim c.args.mesh.now c.args.dat = search rules in
    let o : c.as_slice.result.now ≡ originals_in c.args.part.now.sets.items (dat_set c.args.mesh.now c.args.dat) =
    c.as_slice.ensures ∙ (originals_read c.args.part.now.sets.items c.dat_shape-set.result.0 c.index-elements.result.now lt c.index-elements.ensures
    ∙ ap (λ z. originals_in c.args.part.now.sets.items z) e) in
    subst (λ z. length z * c.dat_shape-set.result.1 ≤ length c.values_of-values.result.now) (sym o)
    (subst (λ z. length (originals_in c.args.part.now.sets.items (dat_set c.args.mesh.now c.args.dat)) * z ≤ length c.values_of-values.result.now) (sym d)
    c.values_of-values.ensures.room)

pub returns-clause-ok : goal.returns-clause-ok
returns-clause-ok c =
    let lt : c.dat_shape-set.result.0 < length c.args.part.now.sets.items = search rules in
    let e : c.dat_shape-set.result.0 ≡ dat_set c.args.mesh.now c.args.dat = search rules in
    let d : c.dat_shape-set.result.1 ≡ dat_dim c.args.mesh.now c.args.dat = search rules in
    dat_printed c.put_copies.result c.args.out.now.items c.put_counts.new.out.items c.put_copies.new.out.items c.args.mesh.now c.args.rank c.args.part.now
    c.args.memory.now c.args.dat c.dat_shape-set.result.0 c.dat_shape-set.result.1 c.index-elements.result.now c.values_of-values.result.now
    lt c.index-elements.ensures e d
    (rw (sym c.dat_name.ensures) (c.in_ok-put_counts.ensures.ok))
    c.values_of-values.ensures.values
    (rw (sym c.as_slice.ensures) c.put_copies.ensures.ok)
