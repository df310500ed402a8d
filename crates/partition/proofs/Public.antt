-- What proofs of other crates use of this one: laws of its definitions, and nothing of its code.

-- One more element or set given out, and the size of a block.
pub use Rattle.partition.proofs.Shares.{share_count}
-- Firsts of the numbers that pass a test.
pub use Rattle.partition.proofs.Firsts.{none_passes}
-- One turn after another: what is so of the sets that have owners.
pub use Rattle.partition.proofs.TurnSteps.{IsTurn, turn_init, turn_step, turn_none, turn_done}
-- Growth: at each place of a rank's block stands the next free element.
pub use Rattle.partition.proofs.Giving.{start_le, block_unique, in_some_block}
-- Owners derived from those of one set.
pub use Rattle.partition.proofs.OneSet.{derived_one, derived_own, one_kept}
-- Steps of searches for the greatest and the least value, and for the largest spread.
pub use Rattle.partition.proofs.Axes.{spread_from, spread_le}
-- The two parts of a cut, and what is so of owners after both have theirs.
pub use Rattle.partition.proofs.Parts.{same_halved, halved_one, halved_none, halved_both, lower_once, upper_once, lower_share, upper_share}
pub use Rattle.partition.proofs.Parts.{upper_length}
-- How many elements each rank gets by halving.
pub use Rattle.partition.proofs.Halving.{all_once, bisected}
-- Each element of each set has a rank.
pub use Rattle.partition.proofs.part_text.Owned.{spelled-owners}
