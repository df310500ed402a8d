-- Where the cells of messages stand on a rank.
use Rattle.std.specs.Prelude.{◌≡◌, ◌<◌, ◌≤◌, ℕ, ◌+◌, ◌*◌, true, All, List, [], Vec, map, length, slice_index, slice_index_or}
use Rattle.std.specs.declared.alloc.Global.{Global}
use Rattle.std.specs.List.{flat_map}
use Rattle.lemmas.specs.Below.{row, rows}
use Rattle.mesh_decl.specs.Mesh.{MeshValue, set_count, dat_count, dat_set, dat_dim}
use Rattle.local_mesh.specs.declared.types.RankMesh.{RankMesh}
use Rattle.local_mesh.specs.declared.lists.LocalLists.{LocalLists}
use Rattle.rank_state.specs.declared.spans.Span.{Span}

-- base of the dat, its dim, local number: where the values of the element stand
abbrev pub element_span : ℕ → ℕ → ℕ → Span
element_span base dim k = record { at = base + k * dim; dim = dim; writes = true }

-- of a set, by importing rank and owner, the importing rank's local numbers
unfoldable pub imports_in : List LocalLists → ℕ → List (Vec (Vec ℕ Global) Global)
imports_in lists t = slice_index_or (map (λ (x : LocalLists). x.imports.items) lists) t []

-- set, rank, owner: the rank's local numbers of what it imports from the owner
abbrev pub imported_locals : List LocalLists → ℕ → ℕ → ℕ → List ℕ
imported_locals lists t r a = row (rows (imports_in lists t) r) a

-- the table has a list for two ranks, in this order
pub record HasList (tables : List (Vec (Vec ℕ Global) Global)) (s r : ℕ) : Type 0 where
  pub first : s < length tables
  pub second : r < length (rows tables s)

module _ (g : MeshValue) (m : RankMesh) (locals : ℕ → List ℕ) where
  -- where a dat's elements with these local numbers stand, by the numbers of the dat's set
  abbrev pub dat_spans : ℕ → List Span
  dat_spans d = map (element_span (slice_index m.bases.items d) (dat_dim g d)) (locals (dat_set g d))

  -- those of several dats, one dat after another
  abbrev pub spans_of : List ℕ → List Span
  spans_of dats = flat_map dat_spans dats

  -- all of a dat's elements stand within the buffer
  abbrev pub AreWithin : ℕ → Type 0
  AreWithin d = All (λ k. slice_index m.bases.items d + k * dat_dim g d + dat_dim g d ≤ m.cells) (locals (dat_set g d))

  -- these are dats of the mesh, which stand within the buffer
  pub record AreThere (list : List ℕ) : Type 0 where
    pub dats : All (λ d. d < dat_count g) list
    pub sets : (d : ℕ) → d < dat_count g → dat_set g d < set_count g
    pub bases : length m.bases.items ≡ dat_count g
    pub within : (d : ℕ) → d < dat_count g → AreWithin d
