-- Owners of the sets that have none, by rule from those that have.
use Rattle.std.specs.Prelude.{◌≡◌, ◌⊎◌, ℕ, ◌<◌, Bool, true, false, not, ◌&&◌, nat_eq, nat_lt, List, [], Option, Some, None, Vec, map, length, is_some, slice_index, slice_index_or}
use Rattle.std.specs.declared.alloc.Global.{Global}
use Rattle.mesh_decl.specs.declared.owners.Owners.{Owners}
use Rattle.mesh_decl.specs.Mesh.{MeshValue, set_count, map_count, set_size, map_from, map_to}
use Rattle.mesh_decl.specs.Owners.{AreOwners, owners_in}
use Rattle.lemmas.specs.Below.{any_below}
use Rattle.partition.specs.Block.{InBlock}
use Rattle.partition.specs.Elected.{IsElected, target_votes, naming_votes, is_named}

-- k is the first number below n that passes
pub record IsFirst (n : ℕ) (p : ℕ → Bool) (k : ℕ) : Type 0 where
  pub within : k < n
  pub passes : p k ≡ true
  pub before : (j : ℕ) → j < k → p j ≡ false

-- map m leads from set s to a set with owners
abbrev pub leads_to_known : MeshValue → (ℕ → Bool) → ℕ → ℕ → Bool
leads_to_known g known s m = nat_eq (map_from g m) s && known (map_to g m)

-- map m leads to set s from a set with owners
abbrev pub leads_from_known : MeshValue → (ℕ → Bool) → ℕ → ℕ → Bool
leads_from_known g known s m = nat_eq (map_to g m) s && known (map_from g m)

-- set s has no owners, and some map leads from it to a set with owners
abbrev pub can_follow_targets : MeshValue → (ℕ → Bool) → ℕ → Bool
can_follow_targets g known s = not (known s) && any_below (map_count g) (leads_to_known g known s)

-- set s has no owners, and some map leads to it from a set with owners
abbrev pub can_follow_names : MeshValue → (ℕ → Bool) → ℕ → Bool
can_follow_names g known s = not (known s) && any_below (map_count g) (leads_from_known g known s)

-- set s is the first from which a map leads to a set with owners, and map m the first such map
abbrev pub AreTargetsNext : MeshValue → (ℕ → Bool) → ℕ → ℕ → Type 0
AreTargetsNext g known s m = IsFirst (set_count g) (can_follow_targets g known) s × IsFirst (map_count g) (leads_to_known g known s) m

-- set s is the first to which a map leads from a set with owners, and map m the first such map
abbrev pub AreNamesNext : MeshValue → (ℕ → Bool) → ℕ → ℕ → Type 0
AreNamesNext g known s m = IsFirst (set_count g) (can_follow_names g known) s × IsFirst (map_count g) (leads_from_known g known s) m

-- each element of the set from which map m leads has the rank most frequent among its targets
abbrev pub AreByTargets : MeshValue → ℕ → List ℕ → ℕ → ℕ → List ℕ → Type 0
AreByTargets g ranks owners m s xs = (x : ℕ) → x < set_size g s → IsElected ranks (target_votes g owners m x) (slice_index xs x)

-- each element of the set to which map m leads has the rank most frequent among the entries that name it, and where none does that of its
-- block
pub record AreByNames (g : MeshValue) (ranks : ℕ) (owners : List ℕ) (m s : ℕ) (xs : List ℕ) : Type 0 where
  pub elected : (x : ℕ) → x < set_size g s → is_named g m x ≡ true → IsElected ranks (naming_votes g owners m x) (slice_index xs x)
  pub block : (x : ℕ) → x < set_size g s → is_named g m x ≡ false → InBlock (set_size g s) ranks (slice_index xs x) x

-- rule 1: the first set from which a map leads to a set with owners gets its owners by its targets
pub record IsByTargets (g : MeshValue) (ranks : ℕ) (owners : ℕ → List ℕ) (known : ℕ → Bool) (s : ℕ) (xs : List ℕ) : Type 0 where
  pub map : ℕ
  pub next : AreTargetsNext g known s map
  pub elected : AreByTargets g ranks (owners (map_to g map)) map s xs

-- rule 2, where rule 1 has no set: the first set to which a map leads from a set with owners gets its owners by the entries that name its
-- elements
pub record IsByNames (g : MeshValue) (ranks : ℕ) (owners : ℕ → List ℕ) (known : ℕ → Bool) (s : ℕ) (xs : List ℕ) : Type 0 where
  pub none : any_below (set_count g) (can_follow_targets g known) ≡ false
  pub map : ℕ
  pub next : AreNamesNext g known s map
  pub elected : AreByNames g ranks (owners (map_from g map)) map s xs

-- rule 3, where neither has a set: the first set without owners, by blocks
pub record IsByBlocks (g : MeshValue) (ranks : ℕ) (known : ℕ → Bool) (s : ℕ) (xs : List ℕ) : Type 0 where
  pub none : any_below (set_count g) (can_follow_targets g known) ≡ false
  pub none_names : any_below (set_count g) (can_follow_names g known) ≡ false
  pub set : IsFirst (set_count g) (λ t. not (known t)) s
  pub block : (x : ℕ) → x < set_size g s → InBlock (set_size g s) ranks (slice_index xs x) x

-- set s gets owners next, and they are these
abbrev pub IsNextSet : MeshValue → ℕ → (ℕ → List ℕ) → (ℕ → Bool) → ℕ → List ℕ → Type 0
IsNextSet g ranks owners known s xs = IsByTargets g ranks owners known s xs
    ⊎ (IsByNames g ranks owners known s xs ⊎ IsByBlocks g ranks known s xs)

-- each set that has owners has a rank below `ranks` for each of its elements
pub record AreKnown (g : MeshValue) (ranks : ℕ) (sets : List (List ℕ)) (known : List Bool) : Type 0 where
  pub each_set : length sets ≡ set_count g
  pub each_known : length known ≡ set_count g
  pub lengths : (s : ℕ) → s < set_count g → slice_index_or known s false ≡ true → length (slice_index_or sets s []) ≡ set_size g s
  pub below : (s x : ℕ) → s < set_count g → slice_index_or known s false ≡ true → x < set_size g s
      → slice_index (slice_index_or sets s []) x < ranks

-- set s is given
unfoldable pub is_given : List (Option (Vec ℕ Global)) → ℕ → Bool
is_given given s = slice_index_or (map (λ (v : Option (Vec ℕ Global)). is_some v) given) s false

-- the owners in an entry
abbrev pub given_list : Option (Vec ℕ Global) → List ℕ
given_list None = []
given_list (Some v) = v.items

-- the owners given for set s
unfoldable pub given_in : List (Option (Vec ℕ Global)) → ℕ → List ℕ
given_in given s = slice_index_or (map given_list given) s []

-- each given list has a rank below `ranks` for each element of its set
pub record AreGiven (g : MeshValue) (ranks : ℕ) (given : List (Option (Vec ℕ Global))) : Type 0 where
  pub sets : length given ≡ set_count g
  pub lengths : (s : ℕ) → s < set_count g → is_given given s ≡ true → length (given_in given s) ≡ set_size g s
  pub below : (s x : ℕ) → s < set_count g → is_given given s ≡ true → x < set_size g s → slice_index (given_in given s) x < ranks

-- The sets get their owners in turns: those that are given keep theirs, at turn 0; at each later turn, from the sets of the turns before,
-- one more set by the first rule that has one.
pub record AreDerived (g : MeshValue) (o : Owners) (given : ℕ → Bool) (lists : ℕ → List ℕ) : Type 0 where
  pub owners : AreOwners g o
  pub turn : ℕ → ℕ
  pub given_first : (s : ℕ) → s < set_count g → given s ≡ nat_eq (turn s) 0
  pub kept : (s : ℕ) → s < set_count g → given s ≡ true → owners_in o s ≡ lists s
  pub next : (s : ℕ) → s < set_count g → given s ≡ false
      → IsNextSet g o.ranks (owners_in o) (λ t. nat_lt (turn t) (turn s)) s (owners_in o s)
