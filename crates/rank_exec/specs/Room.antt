-- How many cells the messages of an item have.
use Rattle.std.specs.Prelude.{ℕ, sum_by}
use Rattle.schedule_steps.specs.Outline.{Outline}
use Rattle.schedule_steps.specs.Drawn.{numbers}
use Rattle.loop_plan.specs.Counted.{sum_below}

module _ (o : Outline) (cells : ℕ → ℕ → ℕ → ℕ) (k : ℕ) where
  -- those that rank s sends in item k; a message has so many by its item, sender and receiver
  abbrev pub cells_sent : ℕ → ℕ
  cells_sent s = sum_by (cells k s) (numbers (o.sends k s) o.ranks)

  -- those of all messages of item k
  abbrev pub item_cells : ℕ
  item_cells = sum_below cells_sent o.ranks
