-- That what is asked for comes to one outcome.
use Rattle.std.specs.Prelude.{◌≡◌, ℕ, ◌<◌, List, Option, Result, Ok, Err}
use Rattle.mesh_decl.specs.declared.owners.Owners.{Owners}
use Rattle.mesh_decl.specs.declared.owners.Perms.{Perms}
use Rattle.mesh_decl.specs.Mesh.{MeshValue, IsMesh}
use Rattle.mesh_decl.specs.Owners.{ArePerms}
use Rattle.partition.specs.declared.distribute.types.Distribution.{Distribution}
use Rattle.partition.specs.Parts.{Parts, NumbersRefusal, OwnersRefusal}
use Rattle.partition.specs.Judgements.{NumbersAre, OwnersAre}
use Rattle.partition.specs.Distributions.{IsDistribution, distribution_value}

-- the same new numbers, wherever they lie in memory
abbrev pub SamePerms : Perms → Perms → Type 0
SamePerms a b = a.sets.items ≡ b.sets.items

-- the same owners, wherever they lie in memory
abbrev pub SameOwners : Owners → Owners → Type 0
SameOwners a b = (a.ranks ≡ b.ranks) × (a.sets.items ≡ b.sets.items)

-- the same value, by this test, or the same refusal
abbrev pub SameOutcome : {X E : Type 0} → (X → X → Type 0) → Result X E → Result X E → Type 0
SameOutcome Same (Ok x) (Ok y) = Same x y
SameOutcome Same (Ok x) (Err f) = ⊥
SameOutcome Same (Err e) (Ok y) = ⊥
SameOutcome Same (Err e) (Err f) = e ≡ f

-- what is asked for new numbers has one outcome
abbrev pub NumbersAreOne : Type 0
NumbersAreOne =
    (g : MeshValue) (name : Option (List ℕ)) (a b : Result Perms NumbersRefusal)
    → IsMesh g
    → NumbersAre g name a
    → NumbersAre g name b
    → SameOutcome SamePerms a b

-- what is asked for owners has one outcome
abbrev pub OwnersAreOne : Type 0
OwnersAreOne =
    (g : MeshValue) (ranks : ℕ) (parts : Parts) (a b : Result Owners OwnersRefusal)
    → IsMesh g
    → 0 < ranks
    → OwnersAre g ranks parts a
    → OwnersAre g ranks parts b
    → SameOutcome SameOwners a b

-- a mesh has one distribution by the same owners and new numbers
abbrev pub DistributionsAreOne : Type 0
DistributionsAreOne =
    (g : MeshValue) (o u : Owners) (p q : Perms) (a b : Distribution)
    → IsMesh g
    → ArePerms g p
    → SameOwners o u
    → SamePerms p q
    → IsDistribution g o p a
    → IsDistribution g u q b
    → distribution_value a ≡ distribution_value b
