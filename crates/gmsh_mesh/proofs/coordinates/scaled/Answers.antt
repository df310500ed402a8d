use Rattle.std.proofs.Common.{◌≡◌, ◌∙◌, true, false, sym, ap, subst, arith}
use Rattle.gmsh_text.specs.Decimal.{decimal_of}
use Rattle.gmsh_text.specs.Nearest.{fits_at, judged}
use Rattle.gmsh_mesh.proofs.Placing.{outside}
use Rattle.gmsh_mesh.proofs.coordinates.scaled.Goals as goal

pub returns-in-Err : goal.returns-in-Err
returns-in-Err c =
    outside c.args.token.now c.args.scale c.largest_scale.result c.in-Err.field-0 c.line.result
    (ap (λ t. judged (decimal_of t) c.args.scale) (sym c.text.ensures) ∙ sym c.read_scaled.ensures ∙ c.in-Err.is) c.line.ensures
    (omega (arith, c.largest_scale.type_inv))
    (λ k a b. subst (λ t. fits_at (decimal_of t) k ≡ true) c.text-in-Err.ensures (c.largest_scale.ensures.fits k a b))
    (λ k a b. subst (λ t. fits_at (decimal_of t) k ≡ false) c.text-in-Err.ensures (c.largest_scale.ensures.beyond k a b))
