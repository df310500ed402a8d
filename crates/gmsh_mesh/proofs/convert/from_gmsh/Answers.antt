use Rattle.std.proofs.Common.{◌≡◌, ◌≤◌, ◌∙◌, inr, ap, subst, arith, length}
use Rattle.mesh_decl.specs.declared.text.entry.TheConstants.{MESH_VALUES, MESH_BYTES}
use Rattle.gmsh_mesh.specs.Mesh.{Arrays}
use Rattle.gmsh_mesh.specs.Source.{source_text}
use Rattle.gmsh_mesh.proofs.Converting.{many-values, many-bytes, both-texts}
use Rattle.gmsh_mesh.proofs.convert.from_gmsh.Goals as goal

pub returns-then-size-gt-MESH_VALUES-clause-comes : goal.returns-then-size-gt-MESH_VALUES-clause-comes
returns-then-size-gt-MESH_VALUES-clause-comes c =
    inr (many-values c.args.bytes.now c.args.dim c.args.scale c.in_ok-mesh.mesh c.in_ok-mesh.ensures.arrays c.value_count-size.result c.value_count-size.ensures
    c.if-size-gt-MESH_VALUES.true)

pub returns-then-size-gt-MESH_BYTES-clause-comes : goal.returns-then-size-gt-MESH_BYTES-clause-comes
returns-then-size-gt-MESH_BYTES-clause-comes c =
    let few = subst (λ k. k ≤ MESH_VALUES) c.value_count-size.ensures c.if-size-gt-MESH_VALUES.false in
    let size : c.len-size.result ≡ length c.in_ok-text.text.items = omega (arith, c.len-size.ensures, c.in_ok-text.text.ok.0) in
    inr (many-bytes c.args.bytes.now c.args.dim c.args.scale c.in_ok-mesh.mesh c.in_ok-mesh.ensures.arrays few c.in_ok-text.text.items c.in_ok-text.ensures.text
    c.len-size.result size c.if-size-gt-MESH_BYTES.true)

pub returns-clause-comes : goal.returns-clause-comes
returns-clause-comes c =
    let few = subst (λ k. k ≤ MESH_VALUES) c.value_count-size.ensures c.if-size-gt-MESH_VALUES.false in
    let size : c.len-size.result ≡ length c.in_ok-text.text.items = omega (arith, c.len-size.ensures, c.in_ok-text.text.ok.0) in
    both-texts c.args.bytes.now c.args.dim c.args.scale c.in_ok-mesh.mesh c.in_ok-mesh.ensures.arrays few c.in_ok-text.text.items c.in_ok-text.ensures.text
    c.mesh_source.result.now (c.mesh_source.ensures ∙ ap (λ (m : Arrays). source_text m.shape) c.mesh.view_is)
    (subst (λ k. k ≤ MESH_BYTES) size c.if-size-gt-MESH_BYTES.false)
