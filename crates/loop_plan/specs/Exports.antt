-- Messages by the lists of exports.
use Rattle.std.specs.Prelude.{◌≡◌, ℕ, ◌<◌, ◌≤◌, Bool, nat_lt, List, [], Vec, map, length, slice_index, slice_index_or}
use Rattle.std.specs.declared.alloc.Global.{Global}
use Rattle.std.specs.List.{list_any}
use Rattle.local_mesh.specs.declared.rank_sets.rank_set.RankSet.{RankSet}
use Rattle.lemmas.specs.Below.{row, rows}
use Rattle.mesh_decl.specs.Mesh.{MeshValue, set_count, dat_count, dat_set}
use Rattle.local_mesh.specs.declared.halo_lists.types.SetHalo.{SetHalo}
use Rattle.local_mesh.specs.declared.halo_lists.types.Halos.{Halos}
use Rattle.local_mesh.specs.Sets.{sets_in, has_in}

-- of a set, by owner and rank, the owner's elements that the rank imports
unfoldable pub exports_in : Halos → ℕ → List (Vec (Vec ℕ Global) Global)
exports_in h t = slice_index_or (map (λ (x : SetHalo). x.exports.items) h.sets.items) t []

-- there is one
abbrev pub is_some_exported : List (Vec (Vec ℕ Global) Global) → ℕ → ℕ → Bool
is_some_exported exports s r = nat_lt 0 (length (row (rows exports s) r))

-- where these dats are exchanged, s has something for r
abbrev pub passes_by_exports : MeshValue → Halos → List ℕ → ℕ → ℕ → Bool
passes_by_exports g h dats s r = list_any (λ d. is_some_exported (exports_in h (dat_set g d)) s r) dats

-- each set of the mesh has exports by owner and rank, of at most 64 ranks
pub record HaveExports (g : MeshValue) (h : Halos) : Type 0 where
  pub few : h.ranks ≤ 64
  pub sets : length h.sets.items ≡ set_count g
  pub owners : (t : ℕ) → t < set_count g → length (exports_in h t) ≡ h.ranks
  pub ranks : (t s : ℕ) → t < set_count g → s < h.ranks → length (rows (exports_in h t) s) ≡ h.ranks

-- by set and owner, the ranks for which the owner has exports
pub record AreReceivers (g : MeshValue) (h : Halos) (table : List (Vec RankSet Global)) : Type 0 where
  pub count : length table ≡ set_count g
  pub lengths : (t : ℕ) → t < set_count g → length (sets_in table t) ≡ h.ranks
  pub has : (t s r : ℕ) → t < set_count g → s < h.ranks → has_in table t s r ≡ is_some_exported (exports_in h t) s r

-- these are dats of the mesh
abbrev pub AreDats : MeshValue → List ℕ → Type 0
AreDats g dats = (k : ℕ) → k < length dats → slice_index dats k < dat_count g
