-- Given colours of which two blocks in conflict, or two places of a block, have the same.
use Rattle.std.specs.Prelude.{◌≡◌, ◌≢◌, ℕ, ◌<◌, List, Vec, Option, Some, None, length, slice_index}
use Rattle.std.specs.declared.alloc.Global.{Global}
use Rattle.mesh_decl.specs.Mesh.{MeshValue}
use Rattle.colouring.specs.declared.types.IncArg.{IncArg}
use Rattle.colouring.specs.declared.conflicts.Clash.{Clash}
use Rattle.colouring.specs.declared.conflicts.Clash.TheVariants.{Blocks, Places}
use Rattle.colouring.specs.Colours.{BlocksConflict, ConflictWithin}

module _ (g : MeshValue) (maps : List (Vec ℕ Global)) (args : List IncArg) (places size : ℕ) where
  -- two blocks in conflict have one colour
  pub record BlocksClash (colours : List ℕ) : Type 0 where
    pub one : ℕ
    pub other : ℕ
    pub within : one < length colours
    pub other_within : other < length colours
    pub apart : one ≢ other
    pub conflict : BlocksConflict g maps args places size one other
    pub same : slice_index colours one ≡ slice_index colours other

  -- two places of one block in conflict have one colour
  pub record PlacesClash (colours : List ℕ) : Type 0 where
    pub one : ℕ
    pub other : ℕ
    pub within : one < length colours
    pub other_within : other < length colours
    pub apart : one ≢ other
    pub conflict : ConflictWithin g maps args size one other
    pub same : slice_index colours one ≡ slice_index colours other

  -- which of them do, blocks first, by the colours of the blocks and of the places
  abbrev pub ClashIs : (blocks inner : List ℕ) → Option Clash → Type 0
  ClashIs blocks inner None = (¬ BlocksClash blocks) × (¬ PlacesClash inner)
  ClashIs blocks inner (Some Blocks) = BlocksClash blocks
  ClashIs blocks inner (Some Places) = (¬ BlocksClash blocks) × PlacesClash inner
