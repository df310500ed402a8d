-- Which elements are the cells, and which the boundary.
use Rattle.std.specs.Prelude.{ℕ, nat_lt, List, [], ◌∷◌, Option, Some, None, Result, Ok, Err, if◌then◌else◌}
use Rattle.gmsh_mesh.specs.declared.cell_sides.shape.Shape.{Shape}
use Rattle.gmsh_mesh.specs.declared.cell_sides.shape.Shape.TheVariants.{Triangle, Quadrangle, Tetrahedron, Hexahedron}
use Rattle.gmsh_text.specs.Rows.{Rows}
use Rattle.gmsh_text.specs.declared.table.Elements.{Elements}
use Rattle.gmsh_mesh.specs.declared.choice.Dimension.{Dimension}
use Rattle.gmsh_mesh.specs.declared.choice.Dimension.TheVariants.{Two, Three}
use Rattle.gmsh_mesh.specs.declared.choice.Choice.{Choice}
use Rattle.gmsh_mesh.specs.declared.refusal.GmshRefusal.{GmshRefusal}
use Rattle.gmsh_mesh.specs.declared.refusal.GmshRefusal.TheVariants.{NoCells, TwoTypes}

-- how many coordinates a node has
abbrev pub dim_count : Dimension → ℕ
dim_count Two = 2
dim_count Three = 3

-- three dimensions where one of these lists has something
abbrev pub dim_by : List ℕ → List ℕ → Dimension
dim_by [] [] = Two
dim_by (a ∷ ls) ms = Three
dim_by [] (b ∷ ms) = Three

-- the dimension that is asked for, or that of the elements
abbrev pub dimension : Option Dimension → Elements → Dimension
dimension None es = dim_by es.tetrahedra.lines es.hexahedra.lines
dimension (Some d) es = d

-- The one of two shapes that has cells, whose lines are these; where both have, that of the first cell, and the first line of the other.
abbrev pub chosen : Shape → List ℕ → Shape → List ℕ → Result Choice GmshRefusal
chosen one [] other [] = Err NoCells
chosen one (a ∷ ls) other [] = Ok (record { shape = one; other = None })
chosen one [] other (b ∷ ms) = Ok (record { shape = other; other = None })
chosen one (a ∷ ls) other (b ∷ ms) =
    Ok (if nat_lt b a then record { shape = other; other = Some a } else record { shape = one; other = Some b })

-- the shape of the cells of a dimension
abbrev pub choice : Dimension → Elements → Result Choice GmshRefusal
choice Two es = chosen Triangle es.triangles.lines Quadrangle es.quadrangles.lines
choice Three es = chosen Tetrahedron es.tetrahedra.lines Hexahedron es.hexahedra.lines

-- there are no cells of another shape
abbrev pub one_type : Option ℕ → Result (Unit {0}) GmshRefusal
one_type None = Ok tt
one_type (Some line) = Err (TwoTypes line)

-- the cells of a shape
abbrev pub cell_table : Shape → Elements → Rows
cell_table Triangle es = es.triangles
cell_table Quadrangle es = es.quadrangles
cell_table Tetrahedron es = es.tetrahedra
cell_table Hexahedron es = es.hexahedra

-- the elements that are like the sides of cells of a shape
abbrev pub side_table : Shape → Elements → Rows
side_table Triangle es = es.lines
side_table Quadrangle es = es.lines
side_table Tetrahedron es = es.triangles
side_table Hexahedron es = es.quadrangles
