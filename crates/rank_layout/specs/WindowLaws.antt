-- Where the windows on dats of an element stand on a rank that executes it.
use Rattle.std.specs.Prelude.{◌≡◌, ◌<◌, ℕ, ◌+◌, ◌*◌, Bool, false, All, List, [], length, slice_index, slice_index_or}
use Rattle.mesh_decl.specs.declared.owners.Owners.{Owners}
use Rattle.mesh_decl.specs.declared.owners.Perms.{Perms}
use Rattle.mesh_decl.specs.Mesh.{MeshValue, dat_dim}
use Rattle.local_mesh.specs.declared.types.RankMesh.{RankMesh}
use Rattle.local_mesh.specs.LocalMesh.{executed_in}
use Rattle.local_mesh.specs.Lists.{sets_of}
use Rattle.bound_program.specs.declared.sites.Arg.{Arg}
use Rattle.bound_program.specs.declared.sites.Arg.TheVariants.{Dat, Global}
use Rattle.bound_program.specs.Values.{BoundValue, SiteValue}
use Rattle.bound_program.specs.Fits.{site_at}
use Rattle.bound_program.specs.Classes.{modifies}
use Rattle.schedule_model.specs.Cells.{Data}
use Rattle.run_model.specs.Windows.{window_cells, cell_in, reached}
use Rattle.run_model.specs.Programs.{item_at, loop_of}
use Rattle.run_model.specs.Laws.{site_of}
use Rattle.loop_plan.specs.Values.{PlanValue}
use Rattle.bound_plan.specs.Places.{original_at, cells_of, cell_at}
use Rattle.bound_plan.specs.Windows.{on_dats}
use Rattle.bound_plan.specs.Laws.{Planned}
use Rattle.bound_plan.specs.Setups.{setup_of}
use Rattle.bound_plan.specs.Layouts.{layout_of}
use Rattle.rank_state.specs.declared.spans.Span.{Span}
use Rattle.rank_state.specs.Spans.{Within}
use Rattle.rank_state.specs.declared.scalars.Scalar.{Scalar}
use Rattle.rank_state.specs.Windows.{span_cells, Marked}
use Rattle.rank_state.specs.Shows.{AreWindows}
use Rattle.rank_layout.specs.DatWindows.{local_by, spans_after, ArgHere}
use Rattle.rank_layout.specs.Tables.{tables_of}
use Rattle.rank_layout.specs.Made.{AreSiteScalars}
use Rattle.rank_layout.specs.StepLaws.{IsBegin}

-- dat, local number: where the element's values stand; `writes` says whether they are written back
abbrev pub dat_span : MeshValue → RankMesh → ℕ → ℕ → Bool → Span
dat_span g m d l writes = record { at = slice_index m.bases.items d + l * dat_dim g d; dim = dat_dim g d; writes = writes }

-- where the window of an argument on a dat stands, for the element at a place of the rank; `writes` says which dats are written back
abbrev pub arg_span : MeshValue → RankMesh → ℕ → (ℕ → Bool) → Arg → Span
arg_span g m place writes (Dat d v a) = dat_span g m d (local_by g m place v) (writes d)
arg_span g m place writes (Global v a) = record { at = 0; dim = 0; writes = false }

-- The windows on dats of a loop's element at place x of rank r; `writes` says which dats are written back.
pub record AreDatWindows (b : BoundValue) (meshes : List RankMesh) (site : SiteValue) (r x : ℕ) (writes : ℕ → Bool) (spans : List Span)
    : Type 0 where
  pub cells : window_cells b (on_dats site.args) (original_at meshes r site.set x) ≡ span_cells (cell_at meshes b.mesh r) spans
  pub within : Within (cells_of meshes r) spans
  pub marked : Marked (λ i. writes (cell_at meshes b.mesh r i).dat) spans

-- place x of rank r, whose local mesh is m, is one at which it may execute loop s
pub record IsPlaceOf (b : BoundValue) (o : Owners) (meshes : List RankMesh) (s r x : ℕ) (m : RankMesh) : Type 0 where
  pub loop : s < length b.sites
  pub rank : r < o.ranks
  pub place : x < executed_in (sets_of meshes r) (site_at b s).set
  pub part : m ≡ slice_index_or meshes r m

-- the spans by local numbers are where the windows on dats stand
abbrev pub DatWindowsStand : Type 0
DatWindowsStand =
    (b : BoundValue) (o : Owners) (n : Perms) (meshes : List RankMesh) (p : PlanValue)
    → Planned b o n meshes p
    → (s r x : ℕ) (m : RankMesh) (writes : ℕ → Bool)
    → IsPlaceOf b o meshes s r x m
    → AreDatWindows b meshes (site_at b s) r x writes (spans_after (arg_span b.mesh m x writes) (site_at b s).args [])

-- and they are within the buffer
abbrev pub ArgsAreHere : Type 0
ArgsAreHere =
    (b : BoundValue) (o : Owners) (n : Perms) (meshes : List RankMesh) (p : PlanValue)
    → Planned b o n meshes p
    → (s r x : ℕ) (m : RankMesh)
    → IsPlaceOf b o meshes s r x m
    → All (ArgHere b.mesh m x) (site_at b s).args

-- the cells of an argument's span are those that the element reaches by it
abbrev pub ArgsHaveCells : Type 0
ArgsHaveCells =
    (b : BoundValue) (o : Owners) (n : Perms) (meshes : List RankMesh) (p : PlanValue)
    → Planned b o n meshes p
    → (s r x : ℕ) (m : RankMesh) (writes : ℕ → Bool)
    → IsPlaceOf b o meshes s r x m
    → All (λ y. (j : ℕ) → j < (arg_span b.mesh m x writes y).dim
    → Data (cell_at meshes b.mesh r ((arg_span b.mesh m x writes y).at + j))
    ≡ cell_in (reached b (original_at meshes r (site_at b s).set x) y) j) (site_at b s).args

-- together with the scalars of the loop they are the windows of the element that a step begins
abbrev pub ElementWindowsStand : Type 0
ElementWindowsStand =
    (b : BoundValue) (o : Owners) (n : Perms) (meshes : List RankMesh) (p : PlanValue)
    → Planned b o n meshes p
    → (k r x : ℕ) (m : RankMesh) (scalars : List Scalar)
    → IsBegin b o meshes p k r x
    → m ≡ slice_index_or meshes r m
    → AreSiteScalars b (loop_of (item_at b k)) scalars
    → AreWindows (setup_of b o meshes p) (layout_of b o meshes p) (tables_of b p) k r x
    (spans_after (arg_span b.mesh m x (modifies (site_of b k).args)) (site_of b k).args []) scalars
