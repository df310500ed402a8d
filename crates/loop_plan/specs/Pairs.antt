-- Which rank imports from which, and the messages of an item.
use Rattle.std.specs.Prelude.{ℕ, zero, suc, Bool, nat_eq, List, [], ◌++◌, map, take, drop}
use Rattle.std.specs.List.{list_any}
use Rattle.lemmas.specs.Below.{listed}
use Rattle.mesh_decl.specs.Mesh.{MeshValue, dat_set}
use Rattle.local_mesh.specs.declared.types.LocalSet.{LocalSet}
use Rattle.local_mesh.specs.declared.types.RankMesh.{RankMesh}
use Rattle.local_mesh.specs.LocalMesh.{originals_in}
unfoldable pub use Rattle.local_mesh.specs.Numbers.{own_in, core_in}
unfoldable pub use Rattle.local_mesh.specs.Lists.{sets_of}
use Rattle.loop_plan.specs.declared.types.Pair.{Pair}

-- by local number, the original numbers of what a rank owns of a set
abbrev pub owned : List LocalSet → ℕ → List ℕ
owned sets s = take (own_in sets s) (originals_in sets s)

-- by local number, those of what it imports
abbrev pub imported : List LocalSet → ℕ → List ℕ
imported sets s = drop (own_in sets s) (originals_in sets s)

-- of this set, a receiver imports an element that the sender owns
unfoldable pub imports_from : List LocalSet → List LocalSet → ℕ → Bool
imports_from sender receiver s = list_any (λ x. list_any (nat_eq x) (owned sender s)) (imported receiver s)

-- where these dats are exchanged, a message goes from s to r
abbrev pub passes : MeshValue → List RankMesh → List ℕ → ℕ → ℕ → Bool
passes g meshes dats s r = list_any (λ d. imports_from (sets_of meshes s) (sets_of meshes r) (dat_set g d)) dats

-- a message's sender and receiver
abbrev pub pair : ℕ → ℕ → Pair
pair s r = record { from = s; to = r }

-- the pairs of a sender below m and a receiver below n that pass, by sender and receiver
abbrev pub pairs_below : (ℕ → ℕ → Bool) → ℕ → ℕ → List Pair
pairs_below t n zero = []
pairs_below t n (suc m) = pairs_below t n m ++ map (pair m) (listed n (t m))
