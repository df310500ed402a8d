-- The laws of pieces: there is one at most, and of a run's output it is what the run printed there.
use Rattle.std.specs.Prelude.{◌≡◌, ℕ, List, [], slice_index_or}
use Rattle.mesh_decl.specs.Printed.{printed_dat}
use Rattle.bound_program.specs.Values.{BoundValue}
use Rattle.bound_program.specs.Fits.{Fits}
use Rattle.run_model.specs.Arrays.{Arrays}
use Rattle.run_model.specs.Runs.{Going}
use Rattle.run_model.specs.Program.{before, printed}
use Rattle.mesh_draw.specs.Pieces.{IsPrint, IsPiece}

-- two pieces of one output are the same
abbrev pub PiecesAreOne : Type 0
PiecesAreOne =
    (b : BoundValue) (file : List ℕ) (earlier : ℕ) (output piece other : List ℕ)
    → IsPiece b file earlier output piece
    → IsPiece b file earlier output other
    → piece ≡ other

-- Where a run comes to the item that prints the dat, with these arrays, what it prints there is the piece of all that it prints, whether
-- it has a fault behind or not.
abbrev pub RunsHavePieces : Type 0
RunsHavePieces =
    (b : BoundValue) (file : List ℕ) (earlier item dat : ℕ) (arrays : Arrays) (o : List ℕ)
    → Fits b
    → IsPrint b file earlier item dat
    → before b item ≡ Going arrays o
    → IsPiece b file earlier (printed b) (printed_dat file b.mesh dat (slice_index_or arrays dat []))
