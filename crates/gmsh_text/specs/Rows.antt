-- Nodes, and elements of one type, as lists.
use Rattle.std.specs.Prelude.{ℕ, List}
use Rattle.gmsh_text.specs.declared.entities.Group.{Group}
use Rattle.gmsh_text.specs.declared.nodes.Tag.{Tag}
use Rattle.gmsh_text.specs.declared.nodes.Point.{Point}

-- Elements of one type in the order of the file: the line of each one's tag, its physical group, and its nodes' tags.
pub record Rows : Type 0 where
  pub lines : List ℕ
  pub groups : List Group
  pub nodes : List ℕ

-- nodes in the order of the file: their tags, and where they are
pub record Numbered : Type 0 where
  pub tags : List Tag
  pub points : List Point
