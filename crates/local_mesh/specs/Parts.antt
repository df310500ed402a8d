-- What the set of a rank is made from.
use Rattle.std.specs.Prelude.{◌≡◌, ◌≢◌, ℕ, ◌^◌, ◌<◌, ◌≤◌, Bool, false, ◌&&◌, nat_lt, List, ◌++◌, Vec, length, slice_index, slice_index_or, Contains, IfSome, IfNone}
use Rattle.std.specs.declared.alloc.Global.{Global}
use Rattle.mesh_decl.specs.declared.owners.Owners.{Owners}
use Rattle.mesh_decl.specs.declared.owners.Perms.{Perms}
use Rattle.mesh_decl.specs.Mesh.{MeshValue, set_size}
use Rattle.mesh_decl.specs.Owners.{perm_in}
use Rattle.lemmas.specs.Below.{listed, row}
use Rattle.local_mesh.specs.Halo.{owns, imports_execute, imports_nonexecute, has_copy}
use Rattle.local_mesh.specs.declared.halo_lists.types.SetHalo.{SetHalo}
use Rattle.local_mesh.specs.declared.types.Groups.{Groups}
use Rattle.local_mesh.specs.declared.types.LocalSet.{LocalSet}
use Rattle.local_mesh.specs.Local.{ordered}
use Rattle.local_mesh.specs.Lookup.{Rises}

-- the original number of the element of set s with new number j
abbrev pub by_new : Perms → ℕ → ℕ → ℕ
by_new p s j = slice_index (perm_in p s) j

-- each element below n keeps its number
abbrev pub IsKept : ℕ → (ℕ → ℕ) → Type 0
IsKept n order = (j : ℕ) → j < n → order j ≡ j

-- by rank all that each rank has of a set, by original number
pub record AreCopies (g : MeshValue) (o : Owners) (s : ℕ) (lists : List (Vec ℕ Global)) : Type 0 where
  pub count : length lists ≡ o.ranks
  pub each : (r : ℕ) → r < o.ranks → row lists r ≡ listed (set_size g s) (λ x. has_copy g o s x r)

-- by rank the three groups of a set by new number; and all of them by original number, unless each element keeps its number
pub record AreGroups (g : MeshValue) (o : Owners) (p : Perms) (s : ℕ) (t : Groups) : Type 0 where
  pub own_count : length t.own.items ≡ o.ranks
  pub own : (r : ℕ) → r < o.ranks → row t.own.items r ≡ ordered (set_size g s) (by_new p s) (λ x. owns o s x r)
  pub exec_count : length t.exec.items ≡ o.ranks
  pub exec : (r : ℕ) → r < o.ranks → row t.exec.items r ≡ ordered (set_size g s) (by_new p s) (λ x. imports_execute g o s x r)
  pub nonexec_count : length t.nonexec.items ≡ o.ranks
  pub nonexec : (r : ℕ) → r < o.ranks → row t.nonexec.items r ≡ ordered (set_size g s) (by_new p s) (λ x. imports_nonexecute g o s x r)
  pub copies : IfSome t.copies (λ c. AreCopies g o s c.items)
  pub kept : IfNone t.copies (IsKept (set_size g s) (by_new p s))

-- different numbers below n
pub record AreParts (n : ℕ) (numbers : List ℕ) : Type 0 where
  pub few : length numbers < 2 ^ 32
  pub within : (k : ℕ) → k < length numbers → slice_index numbers k < n
  pub apart : (j k : ℕ) → j < k → k < length numbers → slice_index numbers j ≢ slice_index numbers k

-- the same numbers in increasing order
pub record AreSorted (numbers copies : List ℕ) : Type 0 where
  pub rising : Rises copies
  pub all : (k : ℕ) → k < length numbers → Contains copies (slice_index numbers k)
  pub found : (k : ℕ) → k < length copies → Contains numbers (slice_index copies k)

-- what rank r has of a set, in order of local numbers
abbrev pub numbers_of : ℕ → Groups → List ℕ
numbers_of r t = row t.own.items r ++ row t.exec.items r ++ row t.nonexec.items r

-- what rank r has of a set can be joined, by a scratch list of this room
pub record IsReady (r room : ℕ) (t : Groups) (h : SetHalo) : Type 0 where
  pub own : r < length t.own.items
  pub exec : r < length t.exec.items
  pub nonexec : r < length t.nonexec.items
  pub parts : AreParts (length h.core.items) (numbers_of r t)
  pub copies : IfSome t.copies (λ c. (r < length c.items) × AreSorted (numbers_of r t) (row c.items r))
  pub rising : IfNone t.copies (Rises (row t.own.items r) × Rises (row t.exec.items r) × Rises (row t.nonexec.items r))
  pub fits : length h.core.items ≤ room

-- a local set from its three groups a, b and c, and from which elements are core
pub record IsJoined (a b c : List ℕ) (flags : List Bool) (l : LocalSet) : Type 0 where
  pub own : l.own ≡ length a
  pub exec : l.exec ≡ length b
  pub nonexec : l.nonexec ≡ length c
  pub original : l.original ≡ a ++ b ++ c
  pub core_count : length l.core.items ≡ length l.original
  pub core : (k : ℕ) → k < length l.original
      → slice_index_or l.core.items k false ≡ (nat_lt k (length a) && slice_index_or flags (slice_index l.original k) false)

-- a local set of rank r
abbrev pub IsJoinedFrom : ℕ → Groups → SetHalo → LocalSet → Type 0
IsJoinedFrom r t h l = IsJoined (row t.own.items r) (row t.exec.items r) (row t.nonexec.items r) h.core.items l
