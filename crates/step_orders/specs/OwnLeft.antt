-- What is left of a rank's own steps.
use Rattle.std.specs.Prelude.{ℕ, cond, List, [], ◌++◌, drop}
use Rattle.schedule_steps.specs.Outline.{Outline}
use Rattle.schedule_steps.specs.Drawn.{own_item}
use Rattle.schedule_steps.specs.declared.step.Step.{Step}
use Rattle.step_orders.specs.declared.own_walks.OwnPlace.{OwnPlace}
use Rattle.step_orders.specs.ElementRuns.{runs_of}
use Rattle.step_orders.specs.Left.{onward, runs_left, send_steps, receive_steps}

module _ (o : Outline) (g r : ℕ) where
  -- of a Free item
  abbrev pub own_free_left : ℕ → OwnPlace → List Step
  own_free_left k p =
      drop p.sends (send_steps o g k r) ++ (drop p.receives (receive_steps o g k r) ++ runs_left k r (runs_of o g k r) p.runs)

  -- of an item; a rank has no step of its own in any other
  abbrev pub own_item_left : ℕ → OwnPlace → List Step
  own_item_left k p = cond (o.is_free k) (own_free_left k p) []

  -- of all items
  abbrev pub own_left : OwnPlace → List Step
  own_left p = onward (own_item_left p.item p) (own_item o g r) p.item o.items
