-- The text of a mesh's cells for VTK. (The VTK User's Guide, "VTK File Formats": the legacy form, ASCII, an unstructured grid.)
use Rattle.std.specs.Prelude.{◌≡◌, ℕ, ℤ, pos, ◌+◌, ◌*◌, ◌<◌, List, [], ◌∷◌, ◌++◌, map, length, sum_by, slice_index_or, codes, nat_eq, Some, if◌then◌else◌}
use Rattle.std.specs.List.{range_with_len, concat, flat_map}
use Rattle.std.specs.Fmt.{decimal, signed_decimal}
use Rattle.mesh_decl.specs.Mesh.{MeshValue, map_count, dat_count, set_size, map_from, map_to, map_dim, target, dat_set, dat_dim, dat_values}
use Rattle.mesh_draw.specs.declared.shapes.shape.CellKind.{CellKind}
use Rattle.mesh_draw.specs.declared.shapes.shape.CellKind.TheVariants as kind
use Rattle.mesh_draw.specs.declared.shapes.shape.Shape.{Shape}
use Rattle.mesh_draw.specs.Shapes.{kind_of}
use Rattle.mesh_draw.specs.declared.vtk_texts.field.Field.{Field}

-- numbers, each behind a space
abbrev pub spaced : List ℕ → List ℕ
spaced ns = flat_map (λ k. 32 ∷ decimal k) ns

-- a line of numbers, with single spaces between them
abbrev pub number_line : (first : ℕ) → List ℕ → List ℕ
number_line n ns = decimal n ++ spaced ns ++ codes "\n"

-- ---- the grid

-- coordinate k of a node, of which each has `dim`
abbrev pub coordinate : (dim : ℕ) → List ℤ → (node k : ℕ) → List ℕ
coordinate dim values node k = signed_decimal (slice_index_or values (node * dim + k) (pos 0))

-- where a node lies: its coordinates, and 0 for the third of a plane
abbrev pub point_line : (dim : ℕ) → List ℤ → (node : ℕ) → List ℕ
point_line dim values node =
    coordinate dim values node 0 ++ codes " " ++ coordinate dim values node 1 ++ codes " "
    ++ (if nat_eq dim 2 then codes "0" else coordinate dim values node 2) ++ codes "\n"

-- how many nodes there are
abbrev pub node_count : MeshValue → Shape → ℕ
node_count g s = set_size g (dat_set g s.coords)

-- how many cells there are
abbrev pub cell_count : MeshValue → Shape → ℕ
cell_count g s = set_size g (map_from g s.cells)

-- where so many nodes lie, in order
abbrev pub point_lines : (nodes dim : ℕ) → List ℤ → List (List ℕ)
point_lines nodes dim values = map (point_line dim values) (range_with_len 0 nodes)

-- a cell's nodes, in order
abbrev pub nodes_of : MeshValue → Shape → (cell : ℕ) → List ℕ
nodes_of g s cell = map (target g s.cells cell) (range_with_len 0 (map_dim g s.cells))

-- the line of a cell: how many nodes it has, and which
abbrev pub cell_line : MeshValue → Shape → (cell : ℕ) → List ℕ
cell_line g s cell = number_line (length (nodes_of g s cell)) (nodes_of g s cell)

-- how many numbers the lines of the cells have
abbrev pub cell_numbers : MeshValue → Shape → ℕ
cell_numbers g s = sum_by (λ cell. 1 + length (nodes_of g s cell)) (range_with_len 0 (cell_count g s))

-- the cells, in order
abbrev pub cell_lines : MeshValue → Shape → List (List ℕ)
cell_lines g s = map (cell_line g s) (range_with_len 0 (cell_count g s))

-- the number that VTK has for a kind of cells
abbrev pub type_of : CellKind → ℕ
type_of kind.Triangle = 5
type_of kind.Quad = 9
type_of kind.Tetrahedron = 10
type_of kind.Hexahedron = 12

-- the line of a kind of cells
abbrev pub type_line : CellKind → List ℕ
type_line k = decimal (type_of k) ++ codes "\n"

-- the types of the cells, in order
abbrev pub type_lines : MeshValue → Shape → List (List ℕ)
type_lines g s = map (λ cell. type_line s.kind) (range_with_len 0 (cell_count g s))

-- the lines before all others
abbrev pub header : List ℕ → List ℕ
header title = codes "# vtk DataFile Version 3.0\n" ++ title ++ codes "\nASCII\nDATASET UNSTRUCTURED_GRID\n"

-- lines, behind the one that announces how many they are
abbrev pub counted_lines : (word rest : List ℕ) → List (List ℕ) → List ℕ
counted_lines word rest lines = word ++ decimal (length lines) ++ rest ++ concat lines

-- where the nodes lie: how many there are, and each
abbrev pub points_text : MeshValue → Shape → List ℕ
points_text g s =
    counted_lines (codes "POINTS ") (codes " double\n") (point_lines (node_count g s) (dat_dim g s.coords) (dat_values g s.coords))

-- the cells: how many there are, how many numbers they have, and each
abbrev pub cells_text : MeshValue → Shape → List ℕ
cells_text g s = counted_lines (codes "CELLS ") (codes " " ++ decimal (cell_numbers g s) ++ codes "\n") (cell_lines g s)

-- the types of the cells: how many there are, and each
abbrev pub types_text : MeshValue → Shape → List ℕ
types_text g s = counted_lines (codes "CELL_TYPES ") (codes "\n") (type_lines g s)

-- ---- data

-- an array: its name, how many numbers each element has, how many elements there are, and their lines
abbrev pub array_text : (name : List ℕ) → (dim elements : ℕ) → (lines : List ℕ) → List ℕ
array_text name dim elements lines =
    name ++ codes " " ++ decimal dim ++ codes " " ++ decimal elements ++ codes " int\n" ++ lines

-- the line of a number
abbrev pub value_line : ℕ → List ℕ
value_line k = decimal k ++ codes "\n"

-- the array of one number for each cell
abbrev pub number_array : (name : List ℕ) → (numbers : List ℕ) → List ℕ
number_array name numbers = array_text name 1 (length numbers) (flat_map value_line numbers)

-- the array of a field on so many elements
abbrev pub field_array : (elements : ℕ) → Field → List ℕ
field_array elements f = array_text f.name f.dim elements f.rows

-- data: on how many elements, how many arrays there are, and these
abbrev pub data_text : (word : List ℕ) → (elements count : ℕ) → (arrays : List ℕ) → List ℕ
data_text word elements count arrays =
    word ++ decimal elements ++ codes "\nFIELD op2 " ++ decimal count ++ codes "\n" ++ arrays

-- the data of the cells: one number for each, and fields
abbrev pub cell_data : (name numbers : List ℕ) → List Field → List ℕ
cell_data name numbers fields =
    data_text (codes "CELL_DATA ") (length numbers) (length fields + 1)
    (number_array name numbers ++ flat_map (field_array (length numbers)) fields)

-- the data of so many nodes, where there are fields on them
abbrev pub node_data : (nodes : ℕ) → List Field → List ℕ
node_data nodes [] = []
node_data nodes (f ∷ fs) = data_text (codes "POINT_DATA ") nodes (length (f ∷ fs)) (flat_map (field_array nodes) (f ∷ fs))

-- the grid: the nodes, the cells and their types
abbrev pub grid_text : MeshValue → Shape → List ℕ
grid_text g s = points_text g s ++ cells_text g s ++ types_text g s

-- what the text says beside the grid: its title; of each cell one number, in an array of this name; and fields
pub record Data : Type 0 where
  pub title : List ℕ
  pub name : List ℕ
  pub numbers : List ℕ
  pub on_cells : List Field
  pub on_nodes : List Field

-- the whole text: a title, the grid, and the data of the cells and the nodes
abbrev pub whole_text : MeshValue → Shape → Data → List ℕ
whole_text g s d =
    header d.title ++ grid_text g s ++ cell_data d.name d.numbers d.on_cells ++ node_data (node_count g s) d.on_nodes

-- the cells lie where the dat says, by dims of this kind
pub record IsSolid (g : MeshValue) (s : Shape) : Type 0 where
  pub dat : s.coords < dat_count g
  pub map : s.cells < map_count g
  pub leads : map_to g s.cells ≡ dat_set g s.coords
  pub kind : kind_of (dat_dim g s.coords) (map_dim g s.cells) ≡ Some s.kind
