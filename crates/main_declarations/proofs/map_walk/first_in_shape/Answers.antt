use Rattle.std.proofs.Common.{◌≡◌, ◌∙◌, suc, None, ap, sym, rules}
use Rattle.bound_program.specs.declared.refusals.founds.Turn.TheVariants.{InOrder}
use Rattle.bound_program.specs.declared.refusals.refusals.Counted.TheVariants as counted
use Rattle.mesh_decl.specs.Mesh.{map_count}
use Rattle.bound_program.specs.Limits.{max_maps}
use Rattle.bound_program.specs.Refusals.{least_from, found_over}
use Rattle.main_declarations.specs.Declarations.{place_found}
use Rattle.main_declarations.specs.Targets.{shape_found}
use Rattle.main_declarations.specs.Walks.{declared_of}
use Rattle.bound_program.proofs.Public.{first_of_three}
use Rattle.main_declarations.proofs.map_walk.first_in_shape.Goals as goal

pub returns : goal.returns
returns c =
    let places = c.args.source.now.places.now in
    let k = declared_of c.args.k.now in
    let a = place_found places k c.args.is_nested c.args.t in
    let b = found_over InOrder max_maps (suc (map_count k.mesh)) c.args.t counted.Maps in
    let d = shape_found places c.args.source.now.entries.now.entries k c.args.t c.args.from.now c.args.to.now c.args.n c.args.values.now in
    let e : c.note_over.new.first ≡ least_from (least_from None a) b = search rules in
    c.in_ok-note_shape.ensures ∙ ap (λ x. least_from x d) e ∙ sym (first_of_three a b d)
