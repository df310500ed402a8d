-- What proofs of other crates use of this one: laws of its definitions, and nothing of its code.

-- Spans that are written back are the cells that are written one by one.
pub use Rattle.rank_state.proofs.Scatters.{scattered_length, window_length}
-- How many cells an element's windows have, and which elements begin.
pub use Rattle.rank_state.proofs.Counted.{windows_counted}
-- A part of a list that was written, and the parts beside it.
pub use Rattle.rank_state.proofs.rank_memory.Middles.{mid_same, before_mid}
-- How many cells the spans gather.
pub use Rattle.rank_state.proofs.rank_memory.Panes.{gathered_length}
-- One row of a table of vectors that was written, as lists.
pub use Rattle.rank_state.proofs.rank_memory.Views.{lists, rank_in, row_is, row_put, same_on_all, merges_in}
