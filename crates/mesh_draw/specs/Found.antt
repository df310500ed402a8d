-- What the search for an item finds.
use Rattle.std.specs.Prelude.{◌≡◌, ℕ, ◌<◌, ◌≤◌, List}
use Rattle.std.specs.List.{count_by}
use Rattle.mesh_decl.specs.Mesh.{MeshValue, dat_count}
use Rattle.bound_program.specs.Values.{BoundValue, ItemValue, Host, Print}
use Rattle.mesh_draw.specs.Pieces.{is_print, lines_before, IsPrint}
use Rattle.mesh_draw.specs.declared.output_pieces.prints.Print as found
use Rattle.mesh_draw.specs.declared.output_pieces.refusals.PieceRefusal.{PieceRefusal}
use Rattle.mesh_draw.specs.declared.output_pieces.refusals.PieceRefusal.TheVariants.{NoPrint, NoHeader, FewRows, OutOfMemory}

-- the dat that an item prints is there
abbrev pub FitsHere : MeshValue → ItemValue → Type 0
FitsHere g (Host (Print d file)) = d < dat_count g
FitsHere g x = Unit {0}

-- the item prints that dat with this text as its file
abbrev pub Names : ItemValue → List ℕ → (dat : ℕ) → Type 0
Names x file dat = x ≡ Host (Print dat file)

-- the print behind so many, and the LFs before it
pub record IsFound (b : BoundValue) (file : List ℕ) (earlier : ℕ) (p : found.Print) : Type 0 where
  pub item : ℕ
  pub is : IsPrint b file earlier item p.dat
  pub there : p.dat < dat_count b.mesh
  pub before : p.before ≡ lines_before b item

-- there are no more such prints; or memory ran out
abbrev pub IsMissing : BoundValue → (file : List ℕ) (earlier : ℕ) → PieceRefusal → Type 0
IsMissing b file earlier NoPrint = count_by (is_print file) b.trace ≤ earlier
IsMissing b file earlier (NoHeader line) = ⊥
IsMissing b file earlier (FewRows line) = ⊥
IsMissing b file earlier OutOfMemory = Unit {0}
