-- New numbers and owners, each a relation between what is asked for and what comes of it: a value, or its refusal.
use Rattle.std.specs.Prelude.{◌≡◌, ℕ, nat_eq, List, Option, Some, None, Result, Ok, Err}
use Rattle.mesh_decl.specs.declared.owners.Owners.{Owners}
use Rattle.mesh_decl.specs.declared.owners.Perms.{Perms}
use Rattle.mesh_decl.specs.Mesh.{MeshValue, set_size, map_to, dat_set, dat_dim, dat_values}
use Rattle.mesh_decl.specs.Named.{NamesMap, NamesDat}
use Rattle.mesh_decl.specs.Owners.{owners_in, owner_of}
use Rattle.renumber.specs.Neighbours.{are_neighbours}
use Rattle.partition.specs.declared.part_text.refusals.PartRefusal.{PartRefusal}
use Rattle.partition.specs.Spelling.{Spells}
use Rattle.partition.specs.Reading.{Refuses}
use Rattle.partition.specs.Bisect.{IsBisected}
use Rattle.partition.specs.Block.{AreBlocks}
use Rattle.partition.specs.Derive.{AreDerived}
use Rattle.partition.specs.Grow.{IsGrown}
use Rattle.renumber.specs.Identity.{IsIdentity}
use Rattle.renumber.specs.CuthillMcKee.{IsCuthillMcKee}
use Rattle.partition.specs.Parts.{Parts, Block, Bisect, Grow, Text, NumbersRefusal, UnknownMap, OwnersRefusal, NoDat, NoMap, Unspelled}

-- New numbers: each number is kept, or those of Cuthill and McKee by the first map of a name.
abbrev pub NumbersAre : MeshValue → Option (List ℕ) → Result Perms NumbersRefusal → Type 0
NumbersAre g None (Ok p) = IsIdentity g p
NumbersAre g None (Err r) = ⊥
NumbersAre g (Some name) (Ok p) = (m : ℕ) × NamesMap g name (Some m) × IsCuthillMcKee g m p
NumbersAre g (Some name) (Err r) = NamesMap g name None × (r ≡ UnknownMap name)

-- owners by cuts along the values of dat d, those of the other sets derived from them
pub record AreBisected (g : MeshValue) (ranks d : ℕ) (o : Owners) : Type 0 where
  pub count : o.ranks ≡ ranks
  pub cuts : IsBisected (set_size g (dat_set g d)) ranks (dat_values g d) (dat_dim g d) (owners_in o (dat_set g d))
  pub derived : AreDerived g o (λ s. nat_eq s (dat_set g d)) (owners_in o)

-- owners by growth over the neighbours by map m, those of the other sets derived from them
pub record AreGrown (g : MeshValue) (ranks m : ℕ) (o : Owners) : Type 0 where
  pub count : o.ranks ≡ ranks
  pub grown : IsGrown (set_size g (map_to g m)) ranks (are_neighbours g m) (owner_of o (map_to g m))
  pub derived : AreDerived g o (λ s. nat_eq s (map_to g m)) (owners_in o)

-- Owners: by blocks; by the first dat of a name; by the first map of a name; as a text spells them.
abbrev pub OwnersAre : MeshValue → ℕ → Parts → Result Owners OwnersRefusal → Type 0
OwnersAre g ranks Block (Ok o) = AreBlocks g ranks o
OwnersAre g ranks Block (Err r) = ⊥
OwnersAre g ranks (Bisect name) (Ok o) = (d : ℕ) × NamesDat g name (Some d) × AreBisected g ranks d o
OwnersAre g ranks (Bisect name) (Err r) = NamesDat g name None × (r ≡ NoDat name)
OwnersAre g ranks (Grow name) (Ok o) = (m : ℕ) × NamesMap g name (Some m) × AreGrown g ranks m o
OwnersAre g ranks (Grow name) (Err r) = NamesMap g name None × (r ≡ NoMap name)
OwnersAre g ranks (Text bytes) (Ok o) = (o.ranks ≡ ranks) × Spells g ranks bytes o.sets.items
OwnersAre g ranks (Text bytes) (Err r) = (e : PartRefusal) × Refuses g ranks bytes e × (r ≡ Unspelled e)
