-- Nodes by number: from 0, in the order of the file.
use Rattle.std.specs.Prelude.{◌≡◌, ◌/◌, ℕ, List, map, slice_index, Ok, Err}
use Rattle.gmsh_mesh.specs.Places.{ArePlaces, IsFirstDoubled, IsFirstUnknown}
use Rattle.gmsh_text.specs.declared.nodes.Tag.{Tag}
use Rattle.gmsh_mesh.specs.declared.refusal.GmshRefusal.TheVariants.{DuplicateTag, UnknownTag}
use Rattle.gmsh_mesh.specs.Stages.{Judgement}

-- a tag without its line
abbrev pub number_of_tag : Tag → ℕ
number_of_tag t = t.number

-- the line of a tag
abbrev pub line_of_tag : Tag → ℕ
line_of_tag t = t.line

-- tags without their lines
abbrev pub numbers : List Tag → List ℕ
numbers tags = map number_of_tag tags

-- The nodes of elements by number, where no node's tag stands twice and each tag of an element's node is a node's. The elements have their
-- tags on these lines, and each so many nodes.
abbrev pub NumbersAre : (tags : List Tag) → (nodes lines : List ℕ) → (width : ℕ) → Judgement (List ℕ)
NumbersAre tags nodes lines width (Ok of) = ArePlaces (numbers tags) nodes of
NumbersAre tags nodes lines width (Err (DuplicateTag line)) =
    (place : ℕ) × IsFirstDoubled (numbers tags) place × (line ≡ slice_index (map line_of_tag tags) place)
NumbersAre tags nodes lines width (Err (UnknownTag line)) =
    (place : ℕ) × IsFirstUnknown (numbers tags) nodes place × (line ≡ slice_index lines (place / width))
NumbersAre tags nodes lines width (Err e) = ⊥
