-- Cells of a dat that stand side by side on one rank.
use Rattle.std.specs.Prelude.{◌≡◌, ◌<◌, ◌≤◌, ◌+◌, ℕ, map}
use Rattle.std.specs.List.{flat_map}
use Rattle.mesh_decl.specs.Mesh.{dat_dim}
use Rattle.bound_program.specs.Values.{BoundValue}
use Rattle.run_model.specs.Windows.{numbers}
use Rattle.schedule_model.specs.Cells.{Data}
use Rattle.schedule_model.specs.Setup.{Setup, owner_of}
use Rattle.schedule_model.specs.Layout.{Layout}
use Rattle.rank_state.specs.declared.owned.Owned.{Owned}
use Rattle.rank_state.specs.Windows.{cells_from}

-- the next cells stand behind these, and those are both
pub record IsJoined (cells next both : Owned) : Type 0 where
  pub rank : next.rank ≡ cells.rank
  pub at : next.at ≡ cells.at + cells.dim
  pub is : both ≡ record { rank = cells.rank; at = cells.at; dim = cells.dim + next.dim }

-- the cells are those of the first n elements of dat d, in their order, on the rank that owns them
pub record StandOn {F : Type 0} (b : BoundValue) (p : Setup F) (l : Layout F) (d n : ℕ) (o : Owned) : Type 0 where
  pub rank : o.rank < p.ranks
  pub inside : o.at + o.dim ≤ l.width o.rank
  pub cells : cells_from (l.cell_at o.rank) o.at o.dim
      ≡ flat_map (λ x. map (λ i. Data (record { dat = d; element = x; component = i })) (numbers (dat_dim b.mesh d))) (numbers n)
  pub owned : (j : ℕ) → j < o.dim → owner_of p (l.cell_at o.rank (o.at + j)) ≡ o.rank
