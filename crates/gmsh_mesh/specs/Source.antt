-- The program of a shape.
use Rattle.std.specs.Prelude.{ℕ, List}
use Rattle.gmsh_mesh.specs.declared.cell_sides.shape.Shape.{Shape}
use Rattle.gmsh_mesh.specs.declared.cell_sides.shape.Shape.TheVariants.{Triangle, Quadrangle, Tetrahedron, Hexahedron}
use Rattle.gmsh_mesh.specs.declared.source.TheConstants.{TRIANGLE_SOURCE, QUADRANGLE_SOURCE, TETRAHEDRON_SOURCE, HEXAHEDRON_SOURCE}

-- the program for a mesh of cells of this shape
abbrev pub source_text : Shape → List ℕ
source_text Triangle = TRIANGLE_SOURCE.now
source_text Quadrangle = QUADRANGLE_SOURCE.now
source_text Tetrahedron = TETRAHEDRON_SOURCE.now
source_text Hexahedron = HEXAHEDRON_SOURCE.now
