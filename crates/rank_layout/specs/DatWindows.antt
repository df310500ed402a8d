-- The windows on dats of an element, where they stand on a rank.
use Rattle.std.specs.Prelude.{ℕ, ◌+◌, ◌*◌, ◌<◌, ◌≤◌, Bool, false, ◌||◌, nat_eq, if◌then◌else◌, List, [], ◌∷◌, ◌++◌, length, slice_index, Option, Some, None}
use Rattle.lemmas.specs.Below.{row}
use Rattle.mesh_decl.specs.declared.access.Via.{Via}
use Rattle.mesh_decl.specs.Mesh.{MeshValue, map_count, map_dim, dat_count, dat_dim}
use Rattle.local_mesh.specs.declared.types.RankMesh.{RankMesh}
use Rattle.bound_program.specs.declared.sites.Arg.{Arg}
use Rattle.bound_program.specs.declared.sites.Arg.TheVariants.{Dat, Global}
use Rattle.rank_state.specs.declared.spans.Span.{Span}

-- a span begins at the cell
abbrev pub begins_at : ℕ → List Span → Bool
begins_at at [] = false
begins_at at (s ∷ ss) = nat_eq s.at at || begins_at at ss

-- the spans with one more, unless one begins where it does
abbrev pub with_span : Span → List Span → List Span
with_span s spans = if begins_at s.at spans then spans else spans ++ s ∷ []

module _ (g : MeshValue) (m : RankMesh) (place : ℕ) where
  -- the local number of the element that the place's element reaches directly, or by a map
  abbrev pub local_by : Option Via → ℕ
  local_by None = place
  local_by (Some v) = slice_index (row m.maps.items v.map) (place * map_dim g v.map + v.index)

  -- the rank has the local number of what a map leads to
  abbrev pub ViaHere : Option Via → Type 0
  ViaHere None = Unit {0}
  ViaHere (Some v) =
      (v.map < map_count g)
      × (v.map < length m.maps.items)
      × (place * map_dim g v.map + v.index < length (row m.maps.items v.map))

  -- the window of an argument on a dat stands within the rank's buffer
  abbrev pub ArgHere : Arg → Type 0
  ArgHere (Dat d v a) =
      (d < dat_count g)
      × (d < length m.bases.items)
      × ViaHere v
      × (slice_index m.bases.items d + (local_by v + 1) * dat_dim g d ≤ m.cells)
  ArgHere (Global v a) = Unit {0}

-- the spans of the arguments on dats, each once, behind others
abbrev pub spans_after : (Arg → Span) → List Arg → List Span → List Span
spans_after span_by [] spans = spans
spans_after span_by (Dat d v a ∷ xs) spans = spans_after span_by xs (with_span (span_by (Dat d v a)) spans)
spans_after span_by (Global v a ∷ xs) spans = spans_after span_by xs spans
