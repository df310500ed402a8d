use Rattle.std.proofs.Common.{ℕ, ℤ, List, length, ◌<◌, ◌*◌, sym, ap, subst, ◌∙◌}
use Rattle.mesh_decl.specs.Mesh.{set_count, set_size, dat_set, dat_values}
use Rattle.mesh_draw.specs.Frame.{IsFrame}
use Rattle.mesh_draw.proofs.picture.drawing.frame_in.Goals as goal

pub set_size-requires : goal.set_size-requires
set_size-requires c =
    subst (λ (s : ℕ). s < set_count c.args.mesh.now) (sym (ap (λ (p : ℕ × ℕ). p.0) c.dat_shape-set.ensures))
    (c.is_in_range.ensures.dats c.args.shape.coords c.requires.dat).set

pub frame_of-requires : goal.frame_of-requires
frame_of-requires c =
    ap length c.dat_values.ensures
    ∙ (c.is_in_range.ensures.dats c.args.shape.coords c.requires.dat).length
    ∙ ap (λ (n : ℕ). set_size c.args.mesh.now (dat_set c.args.mesh.now c.args.shape.coords) * n) c.requires.plane
    ∙ sym (ap (λ (n : ℕ). n * 2) (c.set_size.ensures ∙ ap (λ (p : ℕ × ℕ). set_size c.args.mesh.now p.0) c.dat_shape-set.ensures))

pub returns : goal.returns
returns c =
    subst (λ (n : ℕ). IsFrame n (dat_values c.args.mesh.now c.args.shape.coords) c.frame_of.result)
    (c.set_size.ensures ∙ ap (λ (p : ℕ × ℕ). set_size c.args.mesh.now p.0) c.dat_shape-set.ensures)
    (subst (λ (zs : List ℤ). IsFrame c.set_size.result zs c.frame_of.result) c.dat_values.ensures c.frame_of.ensures)
