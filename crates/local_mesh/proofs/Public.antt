-- What proofs of other crates use of this one: laws of its definitions, and nothing of its code.

-- The list of originals by group, and the local numbers.
pub use Rattle.local_mesh.proofs.Inverse.{table_more, inverse}
-- What follows where originals and local numbers are inverse.
pub use Rattle.local_mesh.proofs.Numbered.{groups_apart, number_few, number_below, number_copied, number_contains, number_apart}
-- The sets of a rank have the targets of what it executes.
pub use Rattle.local_mesh.proofs.Closing.{originals_at, executed_at, sets_closed}
-- The groups of a set, from owners, halos and new numbers.
pub use Rattle.local_mesh.proofs.Grouping.{listed_within}
-- Steps of the loops that collect exports.
pub use Rattle.local_mesh.proofs.halo_lists.Exporting.{lengths_more}
-- Lists of sets of ranks, read after a write or a push.
pub use Rattle.local_mesh.proofs.rank_sets.Rows.{has_at_past, has_at_push_left, has_at_push, has_at_read}
-- One set's sets of ranks, read from the list of all.
pub use Rattle.local_mesh.proofs.halo_lists.SetsReading.{sets_read, sets_more, sets_has_more}
-- Steps of the loops that collect marks.
pub use Rattle.local_mesh.proofs.halo_lists.Steps.{any_step, union_at, has_more}
