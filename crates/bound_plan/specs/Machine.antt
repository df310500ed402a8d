-- What the code of a machine asks of the layout beside the theorem: frames, messages, and where elements stand.
use Rattle.std.specs.Prelude.{◌≡◌, ◌<◌, ◌≤◌, ◌+◌, ◌*◌, ℕ, true, List, ◌++◌, length, slice_index}
use Rattle.mesh_decl.specs.declared.owners.Owners.{Owners}
use Rattle.mesh_decl.specs.declared.owners.Perms.{Perms}
use Rattle.mesh_decl.specs.Mesh.{set_count, set_size, dat_count, dat_set, dat_dim}
use Rattle.local_mesh.specs.Halo.{has_copy}
use Rattle.local_mesh.specs.declared.types.RankMesh.{RankMesh}
use Rattle.schedule_model.specs.Cells.{Data, DatCell}
use Rattle.schedule_model.specs.Machine.{arrives}
use Rattle.schedule_model.specs.Layout.{among}
use Rattle.schedule_model.specs.Scatter.{Once}
use Rattle.bound_program.specs.declared.sites.Arg.{Arg}
use Rattle.bound_program.specs.Values.{BoundValue, SiteValue}
use Rattle.run_model.specs.Windows.{window_cells}
use Rattle.loop_plan.specs.Values.{PlanValue, item_plan}
use Rattle.loop_plan.specs.Pairs.{passes}
use Rattle.bound_plan.specs.Places.{originals, original_at, local_at, bases_of, cells_of, cell_at}
use Rattle.bound_plan.specs.Windows.{on_dats, on_variables, frame_cells}
use Rattle.bound_plan.specs.Setups.{setup_of}
use Rattle.bound_plan.specs.Layouts.{exported_cells}
use Rattle.bound_plan.specs.Laws.{Planned}

-- a frame has the windows on dats first, then those on variables
abbrev pub DatsComeFirst : Type 0
DatsComeFirst =
    (b : BoundValue) (args : List Arg) (e : ℕ)
    → frame_cells b args e ≡ window_cells b (on_dats args) e ++ window_cells b (on_variables args) e

-- no cell stands twice in a frame
abbrev pub FramesHaveCellsOnce : Type 0
FramesHaveCellsOnce = (b : BoundValue) (site : SiteValue) (e : ℕ) → Once (frame_cells b site.args e)

-- the cells of messages: none twice in one, each arrives at the receiver, and a message has some
pub record AreMessages (b : BoundValue) (o : Owners) (meshes : List RankMesh) (p : PlanValue) : Type 0 where
  pub once : (k s r : ℕ) → Once (exported_cells b o (item_plan p k).exchange s r)
  pub arrive : (k s r : ℕ) (c : DatCell)
      → among (exported_cells b o (item_plan p k).exchange s r) (Data c) ≡ true
      → arrives (setup_of b o meshes p) k r s c ≡ true
  pub some : (k s r : ℕ)
      → s < o.ranks
      → r < o.ranks
      → passes b.mesh meshes (item_plan p k).exchange s r ≡ true
      → 0 < length (exported_cells b o (item_plan p k).exchange s r)

-- the messages of every planned program are so
abbrev pub MessagesHaveCells : Type 0
MessagesHaveCells =
    (b : BoundValue) (o : Owners) (n : Perms) (meshes : List RankMesh) (p : PlanValue)
    → Planned b o n meshes p
    → AreMessages b o meshes p

-- where elements and their values stand on rank r
pub record Stand (b : BoundValue) (o : Owners) (meshes : List RankMesh) (r : ℕ) : Type 0 where
  -- an element of which the rank has a copy stands at its local number
  pub local : (s e : ℕ)
      → s < set_count b.mesh
      → e < set_size b.mesh s
      → has_copy b.mesh o s e r ≡ true
      → (local_at meshes r s e < length (originals meshes r s)) × (original_at meshes r s (local_at meshes r s e) ≡ e)
  -- and no other has it
  pub one : (s k : ℕ) → s < set_count b.mesh → k < length (originals meshes r s) → local_at meshes r s (original_at meshes r s k) ≡ k
  -- the values of a local element of a dat stand side by side
  pub inside : (d k : ℕ)
      → d < dat_count b.mesh
      → k < length (originals meshes r (dat_set b.mesh d))
      → slice_index (bases_of meshes r) d + k * dat_dim b.mesh d + dat_dim b.mesh d ≤ cells_of meshes r
  pub values : (d k i : ℕ)
      → d < dat_count b.mesh
      → k < length (originals meshes r (dat_set b.mesh d))
      → i < dat_dim b.mesh d
      → cell_at meshes b.mesh r (slice_index (bases_of meshes r) d + k * dat_dim b.mesh d + i)
      ≡ record { dat = d; element = original_at meshes r (dat_set b.mesh d) k; component = i }

-- in every planned program elements and values stand so on each rank
abbrev pub ElementsStand : Type 0
ElementsStand =
    (b : BoundValue) (o : Owners) (n : Perms) (meshes : List RankMesh) (p : PlanValue)
    → Planned b o n meshes p
    → (r : ℕ) → r < o.ranks
    → Stand b o meshes r
