-- What proofs of other crates use of this one: laws of its definitions, and nothing of its code.

-- Places in conflict are ordered by their colours.
pub use Rattle.colouring.proofs.Ordering.{blocks_differ}
-- Blocks and places of one colour with a common target, by rows, and as conflicts.
pub use Rattle.colouring.proofs.Alike.{few_blocks}
