use Rattle.std.proofs.Common.{◌∙◌, ap, ◌++◌, [], ◌∷◌, rules, w32, FitsSigned}
use Rattle.std.proofs.lemmas.Int.{to_z-of_z}
use Rattle.mesh_gen.specs.Places.{cell_along}
use Rattle.mesh_gen.proofs.Rows.{side_more}
use Rattle.mesh_gen.proofs.places.put_side.Goals as goal

pub loop-k-preserved : goal.loop-k-preserved
loop-k-preserved c =
    let fits : FitsSigned w32 c.side_cell.result = search rules in
    side_more (cell_along c.args.side c.args.n) c.loop-k.k c.args.values.now.items c.loop-k.values.items c.push.new.self.items c.loop-k.invariant
    (c.in_ok-push.ensures.items ∙ ap (λ z. c.loop-k.values.items ++ z ∷ []) (to_z-of_z w32 _ fits ∙ c.side_cell.ensures))
