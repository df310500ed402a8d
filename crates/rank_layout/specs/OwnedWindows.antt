-- Where the windows on dats of an element stand in the buffers of the ranks that own them.
use Rattle.std.specs.Prelude.{◌<◌, ◌≤◌, ℕ, ◌+◌, ◌*◌, Bool, false, ◌&&◌, ◌||◌, nat_eq, if◌then◌else◌, List, [], ◌∷◌, ◌++◌, map, length, slice_index, slice_index_or}
use Rattle.mesh_decl.specs.declared.owners.Owners.{Owners}
use Rattle.mesh_decl.specs.Mesh.{MeshValue, dat_count, dat_set, dat_dim}
use Rattle.mesh_decl.specs.Owners.{owners_in, owner_of}
use Rattle.local_mesh.specs.declared.types.RankMesh.{RankMesh}
use Rattle.local_mesh.specs.declared.lists.LocalLists.{LocalLists}
use Rattle.bound_program.specs.declared.sites.Arg.{Arg}
use Rattle.bound_program.specs.declared.sites.Arg.TheVariants.{Dat, Global}
use Rattle.bound_program.specs.Values.{BoundValue}
use Rattle.run_model.specs.Windows.{element_by}
use Rattle.bound_plan.specs.Places.{bases_of, cells_of}
use Rattle.rank_state.specs.declared.owned.Owned.{Owned}
use Rattle.rank_layout.specs.Numbered.{ViaThere}

-- both begin at one cell
abbrev pub begins_with : Owned → Owned → Bool
begins_with s t = nat_eq s.rank t.rank && nat_eq s.at t.at

-- one of the spans begins where this one does
abbrev pub begins_among : Owned → List Owned → Bool
begins_among s [] = false
begins_among s (t ∷ ts) = begins_with t s || begins_among s ts

-- the spans with one more, unless one begins where it does
abbrev pub with_owned : Owned → List Owned → List Owned
with_owned s spans = if begins_among s spans then spans else spans ++ s ∷ []

-- the spans of the arguments on dats, each once, behind others
abbrev pub owned_after : (Arg → Owned) → List Arg → List Owned → List Owned
owned_after span_by [] spans = spans
owned_after span_by (Dat d v a ∷ xs) spans = owned_after span_by xs (with_owned (span_by (Dat d v a)) spans)
owned_after span_by (Global v a ∷ xs) spans = owned_after span_by xs spans

-- of a set, by element, its local number on its owner
unfoldable pub owners_locals : List LocalLists → ℕ → List ℕ
owners_locals lists t = slice_index_or (map (λ (x : LocalLists). x.at_owner) lists) t []

-- what stands for the span of an argument that is on no dat
abbrev pub no_owned : Owned
no_owned = record { rank = 0; at = 0; dim = 0 }

module _ (g : MeshValue) (o : Owners) (meshes : List RankMesh) (lists : List LocalLists) where
  -- the rank that owns the element of the dat
  abbrev pub owner_at : ℕ → ℕ → ℕ
  owner_at d x = owner_of o (dat_set g d) x

  -- where the element's values of the dat begin in its owner's buffer
  abbrev pub place_at_owner : ℕ → ℕ → ℕ
  place_at_owner d x = slice_index (bases_of meshes (owner_at d x)) d + slice_index (owners_locals lists (dat_set g d)) x * dat_dim g d

  -- dat, element: where its values stand on its owner
  abbrev pub owners_span : ℕ → ℕ → Owned
  owners_span d x = record { rank = owner_at d x; at = place_at_owner d x; dim = dat_dim g d }

  -- dat, element: the tables say where its values stand on its owner
  pub record HasPlace (d x : ℕ) : Type 0 where
    pub dat : d < dat_count g
    pub set : dat_set g d < length o.sets.items
    pub element : x < length (owners_in o (dat_set g d))
    pub rank : owner_at d x < length meshes
    pub list : dat_set g d < length lists
    pub local : x < length (owners_locals lists (dat_set g d))
    pub base : d < length (bases_of meshes (owner_at d x))
    pub inside : place_at_owner d x + dat_dim g d ≤ cells_of meshes (owner_at d x)

module _ (b : BoundValue) (o : Owners) (meshes : List RankMesh) (lists : List LocalLists) (e : ℕ) where
  -- where the window of an argument on a dat stands for element e
  abbrev pub owned_by : Arg → Owned
  owned_by (Dat d v a) = owners_span b.mesh o meshes lists d (element_by b v e)
  owned_by (Global v a) = no_owned

  -- what the argument reaches is there, and the tables say where
  abbrev pub ArgPlaced : Arg → Type 0
  ArgPlaced (Dat d v a) = ViaThere b e v × HasPlace b.mesh o meshes lists d (element_by b v e)
  ArgPlaced (Global v a) = Unit {0}
