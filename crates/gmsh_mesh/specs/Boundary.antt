-- The physical tags of the boundary.
use Rattle.std.specs.Prelude.{◌≡◌, ◌≢◌, ◌<◌, ◌⊎◌, ℕ, ℤ, pos, List, length, slice_index, get_or, Ok, Err}
use Rattle.gmsh_mesh.specs.Nodes.{row, IsSameNodes}
use Rattle.gmsh_text.specs.declared.entities.Group.{Group}
use Rattle.gmsh_text.specs.declared.entities.Group.TheVariants.{Ungrouped, One, Several}
use Rattle.gmsh_mesh.specs.declared.refusal.GmshRefusal.TheVariants.{TwoGroups}
use Rattle.gmsh_mesh.specs.Stages.{Judgement}

-- Elements that are like sides: their nodes by number, their groups and their lines.
pub record SideElements : Type 0 where
  pub nodes : List ℕ
  pub groups : List Group
  pub lines : List ℕ

-- the element has the nodes of this face of the boundary; both tables have rows of so many nodes
abbrev pub IsOnFace : ℕ → List ℕ → List ℕ → ℕ → ℕ → Type 0
IsOnFace width bface nodes face e = IsSameNodes (row bface width face) (row nodes width e)

-- the element is in no group
abbrev pub IsFree : List Group → ℕ → Type 0
IsFree groups e = get_or groups e Ungrouped ≡ Ungrouped

-- the element is in this group alone
abbrev pub IsIn : List Group → ℕ → ℤ → Type 0
IsIn groups e tag = get_or groups e Ungrouped ≡ One tag

-- The tag of a face of the boundary is 0 where each element that has its nodes is in no group; or else that of one that has, and each is in
-- that group or in none.
abbrev pub IsFaceTag : ℕ → List ℕ → SideElements → ℕ → ℤ → Type 0
IsFaceTag width bface es face tag =
    ((tag ≡ pos 0) × ((e : ℕ) → e < length es.groups → IsOnFace width bface es.nodes face e → IsFree es.groups e))
    ⊎ (((e : ℕ) × (e < length es.groups) × IsOnFace width bface es.nodes face e × IsIn es.groups e tag)
    × ((e : ℕ) → e < length es.groups → IsOnFace width bface es.nodes face e → IsFree es.groups e ⊎ IsIn es.groups e tag))

-- each face's tag
pub record AreFaceTags (width count : ℕ) (bface : List ℕ) (es : SideElements) (tags : List ℤ) : Type 0 where
  pub size : length tags ≡ count
  pub each : (f : ℕ) → f < count → IsFaceTag width bface es f (get_or tags f (pos 0))

-- the element is on this face and in another group than an element before that is, or in several
abbrev pub IsOther : ℕ → List ℕ → SideElements → ℕ → ℕ → Type 0
IsOther width bface es face e = IsOnFace width bface es.nodes face e × ((get_or es.groups e Ungrouped ≡ Several)
    ⊎ ((t : ℤ) × (before : ℕ) × (s : ℤ) × IsIn es.groups e t × (before < e) × IsOnFace width bface es.nodes face before
    × IsIn es.groups before s × (s ≢ t)))

-- the first element that is so at some face
pub record IsFirstOther (width count : ℕ) (bface : List ℕ) (es : SideElements) (e : ℕ) : Type 0 where
  pub face : ℕ
  pub within : face < count
  pub element : e < length es.groups
  pub other : IsOther width bface es face e
  pub none_before : (f k : ℕ) → f < count → k < e → IsOther width bface es f k → ⊥

-- the tag of each face of the boundary, or the first element of which a face is in two groups
abbrev pub TagsAre : (width count : ℕ) → (bface : List ℕ) → SideElements → Judgement (List ℤ)
TagsAre width count bface es (Ok tags) = AreFaceTags width count bface es tags
TagsAre width count bface es (Err (TwoGroups line)) =
    (e : ℕ) × IsFirstOther width count bface es e × (line ≡ slice_index es.lines e)
TagsAre width count bface es (Err e) = ⊥
