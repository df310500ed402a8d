-- How the elements of a mesh are given to ranks, and why they are not.
use Rattle.std.specs.Prelude.{◌≡◌, ℕ, ◌+◌, ◌^◌, ◌<◌, List, length, Option, Some, None, Result, Ok, Err}
use Rattle.std.specs.Borrow.{Bor}
use Rattle.partition.specs.declared.part_text.refusals.PartRefusal.{PartRefusal}
use Rattle.partition.specs.declared.distribute.types.Parts.{Parts as Given}
use Rattle.partition.specs.declared.distribute.types.Parts.TheVariants as given
use Rattle.partition.specs.declared.distribute.types.NumbersRefusal.{NumbersRefusal as Unnumbered}
use Rattle.partition.specs.declared.distribute.types.NumbersRefusal.TheVariants as unnumbered
use Rattle.partition.specs.declared.distribute.types.OwnersRefusal.{OwnersRefusal as Unowned}
use Rattle.partition.specs.declared.distribute.types.OwnersRefusal.TheVariants as unowned

-- by blocks; by cuts along the values of a dat; by growth over the neighbours by a map; as a text says
pub data Parts : Type 0 where
  Block : Parts
  Bisect : (dat : List ℕ) → Parts
  Grow : (map : List ℕ) → Parts
  Text : (bytes : List ℕ) → Parts

-- no map of the mesh has the name
pub data NumbersRefusal : Type 0 where
  UnknownMap : (name : List ℕ) → NumbersRefusal

-- no dat, or no map, of the mesh has the name; or the text spells no owners of the mesh
pub data OwnersRefusal : Type 0 where
  NoDat : (name : List ℕ) → OwnersRefusal
  NoMap : (name : List ℕ) → OwnersRefusal
  Unspelled : PartRefusal → OwnersRefusal

-- ---- the values of the program's types

-- how the program was told to give elements to ranks
abbrev pub parts_of : Given → Parts
parts_of given.Block = Block
parts_of (given.Bisect dat) = Bisect dat.now
parts_of (given.Grow map) = Grow map.now
parts_of (given.Text bytes) = Text bytes.now

-- the name that is given, where one is
abbrev pub name_of : Option (Bor (List ℕ)) → Option (List ℕ)
name_of None = None
name_of (Some name) = Some name.now

-- new numbers are refused, and P is so of the refusal; or memory ran out
abbrev pub UnnumberedWhere : (NumbersRefusal → Type 0) → Unnumbered → Type 0
UnnumberedWhere P (unnumbered.UnknownMap name) = P (UnknownMap name.now)
UnnumberedWhere P unnumbered.OutOfMemory = Unit {0}

-- owners are refused, and P is so of the refusal; or memory ran out
abbrev pub UnownedWhere : (OwnersRefusal → Type 0) → Unowned → Type 0
UnownedWhere P (unowned.UnknownDat name) = P (NoDat name.now)
UnownedWhere P (unowned.UnknownMap name) = P (NoMap name.now)
UnownedWhere P (unowned.Text r) = P (Unspelled r)
UnownedWhere P unowned.OutOfMemory = Unit {0}

-- new numbers are refused with this refusal, unless memory ran out
abbrev pub IsUnnumbered : {X : Type 0} → Result X Unnumbered → NumbersRefusal → Type 0
IsUnnumbered (Ok x) r = ⊥
IsUnnumbered (Err e) r = UnnumberedWhere (λ s. s ≡ r) e

-- owners are refused with this refusal, unless memory ran out
abbrev pub IsUnowned : {X : Type 0} → Result X Unowned → OwnersRefusal → Type 0
IsUnowned (Ok x) r = ⊥
IsUnowned (Err e) r = UnownedWhere (λ s. s ≡ r) e

-- a text, where there is one, has lines that 32 bits can count
abbrev pub HasLines : Parts → Type 0
HasLines Block = Unit {0}
HasLines (Bisect dat) = Unit {0}
HasLines (Grow map) = Unit {0}
HasLines (Text bytes) = length bytes + 1 < 2 ^ 32
