-- The source and the mesh of the sample.
use Rattle.std.specs.Prelude.{ℕ, pos, ◌+◌, ◌-◌, ◌*◌, List, [], ◌∷◌, ◌++◌, codes}
use Rattle.mesh_decl.specs.declared.text.entry.Form.TheVariants as form
use Rattle.mesh_decl.specs.declared.text.entry.Entry.TheVariants.{One, Many}
use Rattle.mesh_decl.specs.Spelling.{Named}
use Rattle.mesh_decl.specs.Canonical.{canonical}
use Rattle.mesh_gen.specs.declared.source.TheConstants.{SOURCE}
use Rattle.mesh_gen.specs.Grid.{nodes_of_cells, cells_of_edges, cells_of_boundary, walls, coordinates, sums, zeros}

-- the source of the program
unfoldable pub sample_source : List ℕ
sample_source = SOURCE.now

-- how many nodes, cells, edges and boundary edges there are
abbrev pub sizes : ℕ → List Named
sizes n =
    (codes "nnode", One (pos ((n + 1) * (n + 1))))
    ∷ (codes "ncell", One (pos (n * n)))
    ∷ (codes "nedge", One (pos (2 * n * (n - 1))))
    ∷ (codes "nbedge", One (pos (4 * n)))
    ∷ []

-- where the maps lead: from cells to nodes, from edges to cells, from boundary edges to cells
abbrev pub maps : ℕ → List Named
maps n =
    (codes "cell", Many (nodes_of_cells n))
    ∷ (codes "ecell", Many (cells_of_edges n))
    ∷ (codes "bcell", Many (cells_of_boundary n))
    ∷ []

-- the values of the dats
abbrev pub data_of : ℕ → List Named
data_of n =
    (codes "wall0", Many (walls n))
    ∷ (codes "x0", Many (coordinates n))
    ∷ (codes "q0", Many (sums n))
    ∷ (codes "zero", Many (zeros n))
    ∷ []

-- the entries of the mesh of n times n cells
unfoldable pub mesh_entries : ℕ → List Named
mesh_entries n = sizes n ++ maps n ++ data_of n

-- the canonical text of the mesh of n times n cells, in the first version
abbrev pub sample_mesh : ℕ → List ℕ
sample_mesh n = canonical form.One (mesh_entries n)
