use Rattle.std.proofs.Common.{◌≡◌, ◌∙◌, [], sym, ap}
use Rattle.step_orders.specs.Runs.{cut, each_alone}
use Rattle.step_orders.specs.Order.{elements_of}
use Rattle.step_orders.specs.Pieces.{is_alike, pieces_from}
use Rattle.step_orders.proofs.KeyPieces.{pieces_alone}
use Rattle.step_orders.proofs.RunOrder.{alike_within, pieces_are_runs}
use Rattle.step_orders.proofs.runs.Runs.of_places.Goals as goal

pub returns-then-group-eq1 : goal.returns-then-group-eq1
returns-then-group-eq1 c = λ o k r h.
    let t = is_alike c.args.size c.args.colours.now in
    let one : c.args.group ≡ 1 = c.if-group-eq1.true in
    ap each_alone (c.in_ok-places.ensures o k r h)
    ∙ (sym (pieces_alone t (elements_of o k r))
    ∙ (ap (λ g. pieces_from t g [] (elements_of o k r)) (sym one)
    ∙ pieces_are_runs o c.args.group k r t c.requires.group (alike_within o k r c.args.size c.args.block_colours.now c.args.colours.now h)))

pub returns : goal.returns
returns c = λ o k r h.
    let t = is_alike c.args.size c.args.colours.now in
    ap (λ z. cut 0 z c.in_ok-ends.ends.items) (sym c.deref.ensures.value)
    ∙ (c.in_ok-ends.ensures.pieces
    ∙ (ap (λ z. pieces_from t c.args.group [] z) (c.deref.ensures.value ∙ c.in_ok-places.ensures o k r h)
    ∙ pieces_are_runs o c.args.group k r t c.requires.group (alike_within o k r c.args.size c.args.block_colours.now c.args.colours.now h)))
