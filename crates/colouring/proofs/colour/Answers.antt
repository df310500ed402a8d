use Rattle.std.proofs.Common.{◌≡◌, List, [], IfOk, sym, subst}
use Rattle.std.proofs.lemmas.Result.{IfOk-weaker}
use Rattle.colouring.specs.declared.types.IncArg.{IncArg}
use Rattle.colouring.specs.Colours.{AreColours}
use Rattle.colouring.proofs.NoConflicts.{empty_of}
use Rattle.colouring.proofs.colour.Goals as goal

pub returns-then-is_empty : goal.returns-then-is_empty
returns-then-is_empty c =
    let none : c.args.args.now ≡ [] = empty_of c.args.args.now c.is_empty.result c.is_empty.ensures c.if-is_empty.true in
    let maps = c.args.rank.now.maps.items in
    subst (λ (xs : List IncArg). IfOk c.one_colour.result (AreColours c.args.mesh.now maps xs c.args.places c.args.size)) (sym none)
    (IfOk-weaker c.one_colour.result _ (AreColours c.args.mesh.now maps [] c.args.places c.args.size) (λ k h. h c.args.mesh.now maps) c.one_colour.ensures)
