-- Physical tags by classes of sides: the sides of the boundary stand first, and the elements behind them.
use Rattle.std.specs.Prelude.{◌≡◌, ◌≢◌, ◌+◌, ◌<◌, ◌⊎◌, ℕ, ℤ, pos, Bool, true, false, List, length, slice_index, get_or, Option, Some, None, Result, Ok, Err, if◌then◌else◌}
use Rattle.std.specs.Ordering.{int_eq}
use Rattle.gmsh_text.specs.declared.entities.Group.{Group}
use Rattle.gmsh_text.specs.declared.entities.Group.TheVariants.{Ungrouped, One, Several}
use Rattle.gmsh_mesh.specs.declared.refusal.GmshRefusal.{GmshRefusal}
use Rattle.gmsh_mesh.specs.declared.refusal.GmshRefusal.TheVariants.{TwoGroups, OutOfMemory}
use Rattle.gmsh_mesh.specs.Stages.{Judgement}
use Rattle.gmsh_mesh.specs.Boundary.{SideElements, IsFree, IsIn}

-- a tag with one more of its elements, where it stays one
abbrev pub joined_one : Option ℤ → ℤ → ℕ → Result (Option ℤ) GmshRefusal
joined_one None t line = Ok (Some t)
joined_one (Some s) t line = if int_eq s t then Ok (Some s) else Err (TwoGroups line)

-- the same by the element's group
abbrev pub joined_tag : Option ℤ → Group → ℕ → Result (Option ℤ) GmshRefusal
joined_tag o Ungrouped line = Ok o
joined_tag o (One t) line = joined_one o t line
joined_tag o Several line = Err (TwoGroups line)

-- the tag, or 0 where there is none
abbrev pub tag_or : Option ℤ → ℤ
tag_or None = pos 0
tag_or (Some t) = t

-- exactly the classes that one of the first `count` rows has are marked
pub record AreMarks (classes : List ℕ) (count : ℕ) (marks : List Bool) : Type 0 where
  pub size : length marks ≡ length classes
  pub marked : (i : ℕ) → i < count → get_or marks (slice_index classes i) false ≡ true
  pub only : (class : ℕ) → class < length classes → get_or marks class false ≡ true
      → (i : ℕ) × (i < count) × (slice_index classes i ≡ class)

-- the element is of this class; `count` sides stand before the elements
abbrev pub IsOfClass : List ℕ → ℕ → ℕ → ℕ → Type 0
IsOfClass classes count class e = slice_index classes (count + e) ≡ class

-- Of the first `upto` elements those of this class are in no group, where no tag is kept; or in this one group or in none.
abbrev pub IsClassTag : List ℕ → ℕ → List Group → ℕ → ℕ → Option ℤ → Type 0
IsClassTag classes count groups upto class None = (e : ℕ) → e < upto → IsOfClass classes count class e → IsFree groups e
IsClassTag classes count groups upto class (Some t) =
    ((e : ℕ) × (e < upto) × IsOfClass classes count class e × IsIn groups e t)
    × ((e : ℕ) → e < upto → IsOfClass classes count class e → IsFree groups e ⊎ IsIn groups e t)

-- the same of each class that a side of the boundary has
pub record AreClassTags (classes : List ℕ) (count : ℕ) (groups : List Group) (upto : ℕ) (marks : List Bool)
    (tags : List (Option ℤ)) : Type 0 where
  pub size : length tags ≡ length classes
  pub each : (class : ℕ) → class < length classes → get_or marks class false ≡ true
      → IsClassTag classes count groups upto class (get_or tags class None)

-- The element is of a class that is marked, and in several groups or in another than an element of its class before it; and each class
-- that is marked has one tag before it.
pub record IsClassOther (classes : List ℕ) (count : ℕ) (marks : List Bool) (es : SideElements) (e : ℕ) : Type 0 where
  pub within : e < length es.groups
  pub marked : get_or marks (slice_index classes (count + e)) false ≡ true
  pub other : (get_or es.groups e Ungrouped ≡ Several)
      ⊎ ((t : ℤ) × (before : ℕ) × (s : ℤ) × IsIn es.groups e t × (before < e)
      × IsOfClass classes count (slice_index classes (count + e)) before × IsIn es.groups before s × (s ≢ t))
  pub one_before : (class : ℕ) → class < length classes → get_or marks class false ≡ true
      → (o : Option ℤ) × IsClassTag classes count es.groups e class o

-- memory ran out, or the line of such an element is told
abbrev pub IsClassRefused : List ℕ → ℕ → List Bool → SideElements → GmshRefusal → Type 0
IsClassRefused classes count marks es (TwoGroups line) =
    (e : ℕ) × IsClassOther classes count marks es e × (line ≡ slice_index es.lines e)
IsClassRefused classes count marks es e = e ≡ OutOfMemory

-- each of the first `count` rows has the tag of its class, or 0
abbrev pub AreTagsOf : List ℕ → ℕ → List (Option ℤ) → Judgement (List ℤ)
AreTagsOf classes count tags (Ok all) =
    (length all ≡ count) × ((i : ℕ) → i < count → get_or all i (pos 0) ≡ tag_or (get_or tags (slice_index classes i) None))
AreTagsOf classes count tags (Err e) = ⊥
