-- Tables of whole elements.
use Rattle.std.specs.Prelude.{◌≡◌, ◌*◌, length}
use Rattle.gmsh_text.specs.declared.kind.Kind.{Kind}
use Rattle.gmsh_text.specs.declared.kind.Kind.TheVariants.{Line, Triangle, Quadrangle, Tetrahedron, Hexahedron}
use Rattle.gmsh_text.specs.declared.table.Elements.{Elements}
use Rattle.gmsh_text.specs.Rows.{Rows}
use Rattle.gmsh_text.specs.Values.{node_count}

-- as many groups as lines, and for each line the nodes of an element of this type
pub record IsWhole (k : Kind) (t : Rows) : Type 0 where
  pub nodes : length t.nodes ≡ length t.lines * node_count k
  pub groups : length t.groups ≡ length t.lines

-- each type's elements are whole
pub record AreWhole (es : Elements) : Type 0 where
  pub lines : IsWhole Line es.lines
  pub triangles : IsWhole Triangle es.triangles
  pub quadrangles : IsWhole Quadrangle es.quadrangles
  pub tetrahedra : IsWhole Tetrahedron es.tetrahedra
  pub hexahedra : IsWhole Hexahedron es.hexahedra
