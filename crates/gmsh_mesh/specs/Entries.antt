-- The entries of a mesh.
use Rattle.std.specs.Prelude.{pos, ◌/◌, List, [], ◌∷◌, ◌++◌, map, length, codes}
use Rattle.gmsh_mesh.specs.Sides.{nodes}
use Rattle.mesh_decl.specs.Spelling.{Named}
use Rattle.mesh_decl.specs.declared.text.entry.Entry.TheVariants.{One, Many}
use Rattle.gmsh_mesh.specs.Mesh.{Arrays}

-- how many there are of each set
abbrev pub size_entries : Arrays → List Named
size_entries m = (codes "nnode", One (pos (length m.x / m.dim)))
    ∷ (codes "ncell", One (pos (length m.cell / nodes m.shape)))
    ∷ (codes "nface", One (pos (length m.faces.fcell / 2))) ∷ (codes "nbface", One (pos (length m.faces.bcell))) ∷ []

-- the arrays
abbrev pub array_entries : Arrays → List Named
array_entries m = (codes "x", Many m.x) ∷ (codes "cell", Many (map pos m.cell)) ∷ (codes "face", Many (map pos m.faces.face))
    ∷ (codes "fcell", Many (map pos m.faces.fcell)) ∷ (codes "bface", Many (map pos m.faces.bface))
    ∷ (codes "bcell", Many (map pos m.faces.bcell)) ∷ (codes "btag", Many m.btag) ∷ []

-- all
abbrev pub entries : Arrays → List Named
entries m = size_entries m ++ array_entries m
