-- The arguments of a loop on dats by a rank's local numbers.
use Rattle.std.specs.Prelude.{ℕ, ◌≡◌, ◌+◌, ◌*◌, ◌<◌, ◌≤◌, ◌^◌, List, [], ◌∷◌, Option, Some, None, length, get_or, slice_index}
use Rattle.kernel_model.specs.declared.types.views.frame.Place.{Place}
use Rattle.mesh_decl.specs.declared.access.Via.{Via}
use Rattle.mesh_decl.specs.Mesh.{MeshValue, dat_dim}
use Rattle.local_mesh.specs.declared.types.RankMesh.{RankMesh}
use Rattle.bound_program.specs.declared.sites.Arg.{Arg}
use Rattle.bound_program.specs.declared.sites.Arg.TheVariants.{Dat, Global}
use Rattle.rank_layout.specs.DatWindows.{local_by, ViaHere}
use Rattle.kernel_runs.specs.declared.row_batches.ways.LocalVia.{LocalVia}
use Rattle.kernel_runs.specs.Ways.{HasTarget, local_in}
use Rattle.kernel_runs.specs.declared.row_batches.batch_tables.args.LocalArg.{LocalArg}

module _ (x : ℕ) where
  -- where the argument's cells stand for a place; those of one on a variable stand where they stood
  abbrev pub place_in : Option LocalArg → Place → Place
  place_in None p = p
  place_in (Some y) p = record { from = y.base + local_in y.via x * y.dim; count = y.dim }

  -- the same of each argument
  abbrev pub places_in : List (Option LocalArg) → List Place → List Place
  places_in [] ps = ps
  places_in (l ∷ ls) [] = []
  places_in (l ∷ ls) (p ∷ ps) = place_in l p ∷ places_in ls ps

  -- they stand within a buffer of so many cells
  abbrev pub InBuffer : ℕ → Option LocalArg → Type 0
  InBuffer cells None = Unit {0}
  InBuffer cells (Some y) = HasTarget y.via x × (y.base + (local_in y.via x + 1) * y.dim ≤ cells)

  -- 64 bits count the cells up to them
  abbrev pub CountsCells : Option LocalArg → Type 0
  CountsCells y = (cells : ℕ) × (cells < 2 ^ 64) × InBuffer cells y

module _ (g : MeshValue) (m : RankMesh) where
  -- where the rank has the map's targets for a place, the local map leads where the map does; there is none for no map
  abbrev pub IsVia : Option Via → Option LocalVia → Type 0
  IsVia via local =
      (via ≡ None → local ≡ None)
      × ((x : ℕ) → ViaHere g m x via → HasTarget local x × (local_in local x ≡ local_by g m x via))

  -- it finds the argument's cells: where the dat begins in the rank's buffer, how many each element has, and how they are reached; there
  -- is none for an argument on a variable
  abbrev pub IsArg : Arg → Option LocalArg → Type 0
  IsArg (Dat d v a) None = ⊥
  IsArg (Dat d v a) (Some y) = (y.base ≡ slice_index m.bases.items d) × (y.dim ≡ dat_dim g d) × IsVia v y.via
  IsArg (Global v a) None = Unit {0}
  IsArg (Global v a) (Some y) = ⊥

  -- the same of each argument
  abbrev pub AreArgs : List Arg → List (Option LocalArg) → Type 0
  AreArgs args locals =
      (length locals ≡ length args)
      × ((i : ℕ) (a : Arg) (l : Option LocalArg) → i < length args → IsArg (get_or args i a) (get_or locals i l))
