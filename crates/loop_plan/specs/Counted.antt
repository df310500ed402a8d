-- How many steps a plan has, counted item by item.
use Rattle.std.specs.Prelude.{ℕ, zero, suc, ◌+◌, ◌*◌, cond}
use Rattle.schedule_steps.specs.Outline.{Outline, runs}
use Rattle.schedule_steps.specs.Standard.{tally}

-- f 0 + f 1 + .. + f (n - 1)
abbrev pub sum_below : (ℕ → ℕ) → ℕ → ℕ
sum_below f zero = 0
sum_below f (suc n) = sum_below f n + f n

module _ (o : Outline) where
  -- how many messages the item has
  abbrev pub messages : ℕ → ℕ
  messages k = sum_below (λ s. tally (o.sends k s) o.ranks) o.ranks

  -- how many elements the ranks run in the item
  abbrev pub element_runs : ℕ → ℕ
  element_runs k = sum_below (λ r. tally (runs o k r) (o.count k r)) o.ranks

  -- two steps for each message and for each element that a rank runs, or one join
  abbrev pub steps_of : ℕ → ℕ
  steps_of k = cond (o.is_free k) (2 * messages k + 2 * element_runs k) 1

  -- all steps
  abbrev pub counted_steps : ℕ
  counted_steps = sum_below steps_of o.items
