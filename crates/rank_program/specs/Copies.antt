-- Where the values of a dat stand on the ranks that own them.
use Rattle.std.specs.Prelude.{◌≡◌, ◌<◌, ◌≤◌, ◌+◌, ℕ}
use Rattle.mesh_decl.specs.Mesh.{dat_dim}
use Rattle.schedule_model.specs.Setup.{Setup}
use Rattle.schedule_model.specs.Layout.{Layout}
use Rattle.bound_program.specs.Values.{BoundValue}
use Rattle.rank_state.specs.declared.owned.Owned.{Owned}

-- the cells are those of the dat's element, in its owner's buffer
pub record IsOwnersCopy {F : Type 0} (b : BoundValue) (p : Setup F) (l : Layout F) (d e : ℕ) (o : Owned) : Type 0 where
  pub rank : o.rank < p.ranks
  pub inside : o.at + o.dim ≤ l.width o.rank
  pub dim : o.dim ≡ dat_dim b.mesh d
  pub cells : (j : ℕ) → j < o.dim → l.cell_at o.rank (o.at + j) ≡ record { dat = d; element = e; component = j }
  pub owner : p.owner (p.program.set_of d) e ≡ o.rank
