-- Physical groups of entities.
use Rattle.std.specs.Prelude.{ℤ, List}
use Rattle.gmsh_text.specs.declared.entities.Group.{Group}

-- the tag of an entity, and its group
abbrev pub Grouped : Type 0
Grouped = ℤ × Group

-- the groups of the curves and of the surfaces
pub record EntityGroups : Type 0 where
  pub curves : List Grouped
  pub surfaces : List Grouped
