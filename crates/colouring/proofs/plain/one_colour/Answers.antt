use Rattle.colouring.proofs.NoConflicts.{one_colour_is}
use Rattle.colouring.proofs.plain.one_colour.Goals as goal

pub returns : goal.returns
returns c g maps =
    one_colour_is g maps c.args.places c.args.size c.count.result _ c.count.ensures
    (c.in_ok-blocks.ensures.items_if_clones_equal (λ y e. e)) (c.in_ok-inner.ensures.items_if_clones_equal (λ y e. e))
