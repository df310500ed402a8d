-- Where the arguments of a loop stand in a rank's buffer, for the element at a place of the rank: those on dats among its cells, those
-- on variables behind them.
use Rattle.std.specs.Prelude.{ℕ, ℤ, ◌+◌, ◌-◌, false, true, cond, Bool, List, length, Option, Some, None}
use Rattle.kernel_model.specs.declared.types.views.frame.Place.{Place}
use Rattle.mesh_decl.specs.Mesh.{MeshValue}
use Rattle.local_mesh.specs.declared.types.RankMesh.{RankMesh}
use Rattle.bound_program.specs.declared.sites.Arg.{Arg}
use Rattle.bound_program.specs.declared.sites.Arg.TheVariants.{Dat, Global}
use Rattle.bound_program.specs.Values.{BoundValue}
use Rattle.run_model.specs.Windows.{reached, targets, width, window_start}
use Rattle.run_model.specs.Programs.{item_at, loop_of}
use Rattle.bound_plan.specs.Windows.{dats_first, frame_cells}
use Rattle.rank_state.specs.declared.spans.Span.{Span}
use Rattle.rank_state.specs.declared.scalars.Scalar.{Scalar}
use Rattle.rank_state.specs.Windows.{amounts}
use Rattle.rank_layout.specs.Made.{row_of}
use Rattle.rank_program.specs.declared.program.DistributedProgram.{DistributedProgram}
use Rattle.rank_program.specs.Sound.{program_in}
use Rattle.rank_layout.specs.WindowLaws.{arg_span}

-- a span of a rank's cells as a place of a window
abbrev pub span_place : Span → Place
span_place s = record { from = s.at; count = s.dim }

-- the cells of an argument; those of one on a variable stand at p
abbrev pub arg_stands : MeshValue → RankMesh → ℕ → Place → Arg → Span
arg_stands g m place p (Dat d v a) = arg_span g m place (λ e. false) (Dat d v a)
arg_stands g m place p (Global v a) = record { at = p.from; dim = p.count; writes = true }

-- the same as the place of a window
abbrev pub arg_place : MeshValue → RankMesh → ℕ → Place → Arg → Place
arg_place g m place p y = span_place (arg_stands g m place p y)

-- where a window stands behind so many cells that stood behind so many others
abbrev pub moved : (width others : ℕ) → Place → Place
moved width others p = record { from = width + (p.from - others); count = p.count }

module _ (b : BoundValue) (args : List Arg) (e : ℕ) where
  -- where the argument's window stands in an element's frame
  abbrev pub window_place : Arg → Place
  window_place y = record { from = window_start b (targets b (dats_first args) e) (reached b e y); count = width b (reached b e y) }

  -- the same behind a buffer of so many cells, where n scalars stand last in the frame
  abbrev pub behind : (n width : ℕ) → Arg → Place
  behind n width y = moved width (length (frame_cells b args e) - n) (window_place y)

-- the scalars of the item's loop
abbrev pub scalars_in : DistributedProgram → ℕ → List Scalar
scalars_in c k = row_of c.tables.scalars.items (loop_of (item_at (program_in c) k))

-- the partials after an element: one without a fault, which its rank owns, merges the amounts in its scalars' windows
abbrev pub merged_after : {F : Type 0} → Option F → Bool → List Scalar → (windows partials : List ℤ) → List ℤ
merged_after (Some f) own scalars windows partials = partials
merged_after None own scalars windows partials = cond own (amounts scalars windows partials) partials
