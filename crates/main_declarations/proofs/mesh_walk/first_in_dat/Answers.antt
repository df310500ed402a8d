use Rattle.std.proofs.Common.{◌≡◌, ◌∙◌, suc, None, ap, sym, rules}
use Rattle.bound_program.specs.declared.refusals.founds.Turn.TheVariants.{InOrder}
use Rattle.bound_program.specs.declared.refusals.refusals.Counted.TheVariants as counted
use Rattle.mesh_decl.specs.Mesh.{dat_count}
use Rattle.bound_program.specs.Limits.{max_dats}
use Rattle.bound_program.specs.Refusals.{least_from, found_over}
use Rattle.main_declarations.specs.Declarations.{place_found, dat_found}
use Rattle.main_declarations.specs.Walks.{declared_of}
use Rattle.bound_program.proofs.Public.{first_of_three}
use Rattle.main_declarations.proofs.mesh_walk.first_in_dat.Goals as goal

pub returns : goal.returns
returns c =
    let places = c.args.source.now.places.now in
    let k = declared_of c.args.k.now in
    let a = place_found places k c.args.is_nested c.args.t in
    let b = found_over InOrder max_dats (suc (dat_count k.mesh)) c.args.t counted.Dats in
    let d = dat_found places c.args.source.now.entries.now.entries k c.args.t c.args.set.now c.args.n c.args.l.now c.args.values.now in
    let e : c.note_over.new.first ≡ least_from (least_from None a) b = search rules in
    c.in_ok-note_dat.ensures ∙ ap (λ x. least_from x d) e ∙ sym (first_of_three a b d)
