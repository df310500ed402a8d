use Rattle.std.proofs.Common.{◌≡◌, ◌<◌, ℕ, get_or, length, take}
use Rattle.std.specs.List.{flat_map}
use Rattle.step_orders.proofs.Blocks.{block_by_colour}
use Rattle.step_orders.proofs.order.places_in_order.Given as goal

abbrev pub invariant-loop-i : goal.invariant-loop-i
invariant-loop-i l =
    (n : ℕ) → ((x : ℕ) → x < length l.colours → get_or l.colours x 0 < n) → l.places.items ≡ flat_map (block_by_colour l.colours l.size n) (take l.i l.blocks.items)
