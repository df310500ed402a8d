-- What a text of Gmsh has: nodes, elements by type, and entities with their physical groups.
use Rattle.std.specs.Prelude.{ℕ, ℤ, pos, [], ◌∷◌, ◌++◌, Option, Some, None, nat_eq, if◌then◌else◌}
use Rattle.std.specs.Ordering.{int_eq}
use Rattle.gmsh_text.specs.declared.kind.Kind.{Kind}
use Rattle.gmsh_text.specs.declared.kind.Kind.TheVariants.{Point, Line, Triangle, Quadrangle, Tetrahedron, Hexahedron}
use Rattle.gmsh_text.specs.declared.entities.Group.{Group}
use Rattle.gmsh_text.specs.declared.entities.Group.TheVariants.{Ungrouped, One, Several}
use Rattle.gmsh_text.specs.declared.nodes.Tag.{Tag}
use Rattle.gmsh_text.specs.declared.nodes.Point.{Point as Place}
use Rattle.gmsh_text.specs.declared.table.Elements.{Elements}
use Rattle.gmsh_text.specs.Rows.{Rows, Numbered}

-- The type that a number names, where elements of it are read: the numbering of Gmsh's reference manual, "MSH file format".
abbrev pub kind_of : ℕ → Option Kind
kind_of n = if nat_eq n 1 then Some Line else if nat_eq n 2 then Some Triangle else if nat_eq n 3 then Some Quadrangle
    else if nat_eq n 4 then Some Tetrahedron else if nat_eq n 5 then Some Hexahedron else if nat_eq n 15 then Some Point else None

-- how many nodes an element has
abbrev pub node_count : Kind → ℕ
node_count Point = 1
node_count Line = 2
node_count Triangle = 3
node_count Quadrangle = 4
node_count Tetrahedron = 4
node_count Hexahedron = 8

-- no nodes
abbrev pub no_nodes : Numbered
no_nodes = record { tags = []; points = [] }

-- one more tag
abbrev pub with_tag : Tag → Numbered → Numbered
with_tag t ns = record ns { tags = ns.tags ++ t ∷ [] }

-- one more point
abbrev pub with_point : Place → Numbered → Numbered
with_point p ns = record ns { points = ns.points ++ p ∷ [] }

-- no elements of one type
abbrev pub no_table : Rows
no_table = record { lines = []; groups = []; nodes = [] }

-- one more node of the next element
abbrev pub with_corner : ℕ → Rows → Rows
with_corner node t = record t { nodes = t.nodes ++ node ∷ [] }

-- one more element, whose nodes are there
abbrev pub with_row : ℕ → Group → Rows → Rows
with_row line group t = record t { lines = t.lines ++ line ∷ []; groups = t.groups ++ group ∷ [] }

-- no elements
abbrev pub no_elements : Elements
no_elements = record { lines = no_table; triangles = no_table; quadrangles = no_table; tetrahedra = no_table; hexahedra = no_table }

-- what is done to the elements of a type is done to those of this one; points are not kept
abbrev pub in_table : Kind → (Rows → Rows) → Elements → Elements
in_table Point f es = es
in_table Line f es = record es { lines = f es.lines }
in_table Triangle f es = record es { triangles = f es.triangles }
in_table Quadrangle f es = record es { quadrangles = f es.quadrangles }
in_table Tetrahedron f es = record es { tetrahedra = f es.tetrahedra }
in_table Hexahedron f es = record es { hexahedra = f es.hexahedra }

-- one more node of the next element of this type
abbrev pub corner_in : Kind → ℕ → Elements → Elements
corner_in kind node es = in_table kind (with_corner node) es

-- one more element of this type, whose nodes are there
abbrev pub row_in : Kind → ℕ → Group → Elements → Elements
row_in kind line group es = in_table kind (with_row line group) es

-- with one more physical tag; 0 says that there is none
abbrev pub joined : Group → ℤ → Group
joined Ungrouped z = if int_eq z (pos 0) then Ungrouped else One z
joined (One t) z = Several
joined Several z = Several
