-- What proofs of other crates use of this one: laws of its definitions, and nothing of its code.

-- The greatest number of a list, with one number more.
pub use Rattle.rank_layout.proofs.Widest.{site_at}
-- The loop of a Free item, as the plan and the setup name it.
pub use Rattle.rank_layout.proofs.ItemLoops.{args_are, item_there}
-- The local mesh of a rank.
pub use Rattle.rank_layout.proofs.RankMeshes.{cells_at, rank_mesh, sets_at, some_at}
-- The spans in the buffers of owners are where the windows of elements stand.
pub use Rattle.rank_layout.proofs.OwnedStand.{rank_of, value_at, has_place}
