-- The picture of a plane mesh's cells, as a tree of elements. (SVG 1.1, W3C, second edition.)
use Rattle.std.specs.Prelude.{◌≡◌, ◌<◌, ℕ, ℤ, ◌+◌, ◌*◌, max, List, [], ◌∷◌, ◌++◌, map, length, slice_index, codes, nat_le, if◌then◌else◌}
use Rattle.std.specs.List.{range_with_len, join_with_byte}
use Rattle.std.specs.Fmt.{decimal}
use Rattle.mesh_decl.specs.Mesh.{MeshValue, map_count, dat_count, set_size, map_from, map_to, map_dim, target, dat_set, dat_dim, dat_values}
use Rattle.mesh_draw.specs.declared.shapes.shape.Shape.{Shape}
use Rattle.mesh_draw.specs.Tree.{Pair, Node, Element, Empty, Text, NoNode, MoreNodes, nodes_of, printed}
use Rattle.mesh_draw.specs.declared.picture.palette.TheConstants.{COLOUR_COUNT}
use Rattle.mesh_draw.specs.declared.picture.frame.Frame.{Frame}
use Rattle.mesh_draw.specs.declared.picture.legend.Label.{Label}
use Rattle.mesh_draw.specs.Colours.{colour}
use Rattle.mesh_draw.specs.Frame.{IsFrame, margin, with_margins, pixels, from_left, from_top}

-- an attribute whose value is a number
abbrev pub counted : List ℕ → ℕ → Pair
counted name n = (name, decimal n)

-- ---- cells

-- a node's place: how far it lies from the left, and from the top
abbrev pub point_text : Frame → List ℤ → ℕ → List ℕ
point_text f values node = decimal (from_left f values node) ++ codes "," ++ decimal (from_top f values node)

-- the places of a cell's nodes, in order
abbrev pub points_text : MeshValue → Shape → Frame → (cell : ℕ) → List ℕ
points_text g s f cell =
    join_with_byte 32
    (map (λ place. point_text f (dat_values g s.coords) (target g s.cells cell place)) (range_with_len 0 (map_dim g s.cells)))

-- a polygon with these places of nodes, of a colour
abbrev pub polygon_of : (points fill : List ℕ) → Node
polygon_of points fill = Empty (codes "polygon") ((codes "points", points) ∷ (codes "fill", fill) ∷ [])

-- the polygon of a cell: its nodes' places, and its colour
abbrev pub polygon : MeshValue → Shape → Frame → (fills : List ℕ) → (cell : ℕ) → Node
polygon g s f fills cell = polygon_of (points_text g s f cell) (colour (slice_index fills cell))

-- how many cells there are
abbrev pub cell_count : MeshValue → Shape → ℕ
cell_count g s = set_size g (map_from g s.cells)

-- the polygons of all cells, in order
abbrev pub polygons : MeshValue → Shape → Frame → (fills : List ℕ) → List Node
polygons g s f fills = map (polygon g s f fills) (range_with_len 0 (cell_count g s))

-- what of the plane is shown: all nodes, and a margin round them
abbrev pub view_box : Frame → List ℕ
view_box f =
    codes "-" ++ decimal (margin f) ++ codes " -" ++ decimal (margin f)
    ++ codes " " ++ decimal (with_margins f f.across) ++ codes " " ++ decimal (with_margins f f.up)

-- how wide lines between cells are; there are none between very many
abbrev pub line_width : (cells : ℕ) → List ℕ
line_width cells = if nat_le cells 10000 then codes "0.1%" else codes "0"

-- the attributes of a view of the plane
abbrev pub view_attributes : (width height view line : List ℕ) → List Pair
view_attributes width height view line =
    (codes "width", width) ∷ (codes "height", height) ∷ (codes "viewBox", view) ∷ (codes "stroke", codes "#ffffff")
    ∷ (codes "stroke-width", line) ∷ []

-- those of the part of the picture that has so many cells
abbrev pub drawing_attributes : Frame → (cells : ℕ) → List Pair
drawing_attributes f cells =
    view_attributes (decimal (pixels f f.across)) (decimal (pixels f f.up)) (view_box f) (line_width cells)

-- the part of the picture that has the cells
abbrev pub drawing : MeshValue → Shape → Frame → (fills : List ℕ) → Node
drawing g s f fills =
    Element (codes "svg") (drawing_attributes f (cell_count g s)) (nodes_of (polygons g s f fills))

-- ---- the legend

-- a square at a place, of a colour
abbrev pub rect_of : (x y fill : List ℕ) → Node
rect_of x y fill =
    Empty (codes "rect")
    ((codes "x", x) ∷ (codes "y", y) ∷ (codes "width", codes "14") ∷ (codes "height", codes "14") ∷ (codes "fill", fill) ∷ [])

-- the square of a label's colour; k labels stand above it
abbrev pub square : Frame → (k : ℕ) → Label → Node
square f k l =
    rect_of (decimal (pixels f f.across + 15)) (decimal (20 * k + 10)) (colour l.fill)

-- the text of a label
abbrev pub caption : Frame → (k : ℕ) → Label → Node
caption f k l =
    Element (codes "text") (counted (codes "x") (pixels f f.across + 35) ∷ counted (codes "y") (20 * k + 22) ∷ [])
    (MoreNodes (Text l.text) NoNode)

-- labels one below another; k stand above them
abbrev pub labels_from : Frame → (k : ℕ) → List Label → List Node
labels_from f k [] = []
labels_from f k (l ∷ ls) = square f k l ∷ caption f k l ∷ labels_from f (k + 1) ls

-- ---- the whole

-- how high the whole picture is: as the cells, or as the legend where that is higher
abbrev pub whole_height : Frame → (labels : ℕ) → ℕ
whole_height f labels = max (pixels f f.up) (20 * labels + 20)

-- the attributes of a picture of this size
abbrev pub sized_attributes : (width height : List ℕ) → List Pair
sized_attributes width height =
    (codes "xmlns", codes "http://www.w3.org/2000/svg") ∷ (codes "font-family", codes "sans-serif") ∷ (codes "font-size", codes "14")
    ∷ (codes "width", width) ∷ (codes "height", height) ∷ []

-- those of the whole: the legend stands on the right of the cells
abbrev pub whole_attributes : Frame → (labels : ℕ) → List Pair
whole_attributes f labels = sized_attributes (decimal (pixels f f.across + 180)) (decimal (whole_height f labels))

-- the title
abbrev pub title_of : List ℕ → Node
title_of title = Element (codes "title") [] (MoreNodes (Text title) NoNode)

-- the whole picture: its title, its cells and its legend
abbrev pub picture_of : MeshValue → Shape → Frame → (fills title : List ℕ) → List Label → Node
picture_of g s f fills title labels =
    Element (codes "svg") (whole_attributes f (length labels))
    (nodes_of (title_of title ∷ drawing g s f fills ∷ labels_from f 0 labels))

-- This is the text of the picture.
pub record IsPicture (g : MeshValue) (s : Shape) (fills title : List ℕ) (labels : List Label) (text : List ℕ) : Type 0 where
  pub frame : Frame
  pub fits : IsFrame (set_size g (dat_set g s.coords)) (dat_values g s.coords) frame
  pub tree : text ≡ printed (picture_of g s frame fills title labels)

-- the colour is one of the 64
abbrev pub IsColour : ℕ → Type 0
IsColour k = k < COLOUR_COUNT

-- the label has one of the colours
abbrev pub HasColour : Label → Type 0
HasColour l = IsColour l.fill

-- the dat has two coordinates for each element of the set to which the map leads
pub record IsPlane (g : MeshValue) (s : Shape) : Type 0 where
  pub dat : s.coords < dat_count g
  pub map : s.cells < map_count g
  pub plane : dat_dim g s.coords ≡ 2
  pub leads : map_to g s.cells ≡ dat_set g s.coords
