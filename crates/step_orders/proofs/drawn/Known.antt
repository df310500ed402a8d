-- The turn that the code finds is the turn of the order under way.
use Rattle.std.proofs.Common.{◌≡◌, ℕ, ◌∙◌, sym, ap, List, length, Option, Vec}
use Rattle.std.specs.declared.alloc.Global.{Global}
use Rattle.schedule_steps.specs.Outline.{Outline}
use Rattle.schedule_steps.specs.declared.step.Step.{Step}
use Rattle.schedule_steps.specs.Steps.{has}
use Rattle.schedule_steps.specs.Drawn.{turn, drawn_number}
use Rattle.step_orders.specs.declared.drawn.turns.Turn.{Turn}
use Rattle.step_orders.specs.Rests.{rests, is_sent, sent_below}
use Rattle.step_orders.specs.TurnOf.{turn_of}
use Rattle.step_orders.specs.UnderWay.{IsKept}
use Rattle.step_orders.proofs.drawn.TurnIs.{turn_is, to_turn}

pub known : (o : Outline) (heads : List (Option Step)) (tails : List (List Step)) (rows : List (Vec ℕ Global)) (space x join number items : ℕ) (tn : Turn)
    (kept : IsKept o heads tails rows space x join)
    → number ≡ drawn_number x
    → items ≡ o.items
    → tn ≡ turn_of (rests heads tails) (is_sent (sent_below rows)) number join items (length heads)
    → turn o (rests heads tails) (has kept.list) x ≡ to_turn join tn
known o heads tails rows space x join number items tn kept en ei e =
    turn_is o kept.list kept.coming (rests heads tails) x join (sent_below rows) kept.way
    ∙ ap (λ z. to_turn join z)
    (sym (e
    ∙ (ap (λ z. turn_of (rests heads tails) (is_sent (sent_below rows)) z join items (length heads)) en
    ∙ (ap (λ z. turn_of (rests heads tails) (is_sent (sent_below rows)) (drawn_number x) join z (length heads)) ei
    ∙ ap (λ z. turn_of (rests heads tails) (is_sent (sent_below rows)) (drawn_number x) join o.items z) kept.head_count))))
