-- What is asked for comes to one outcome.
use Rattle.std.proofs.Common.{◌≡◌, ℕ, ◌<◌, nat_eq, List, [], length, Option, Some, None, Result, Ok, Err, sym, ap, subst, ◌∙◌, arith}
use Rattle.std.proofs.lemmas.Bool.{eqb-true}
use Rattle.std.proofs.lemmas.List.{ext_get_or}
use Rattle.mesh_decl.specs.declared.owners.Owners.{Owners}
use Rattle.mesh_decl.specs.declared.owners.Perms.{Perms}
use Rattle.mesh_decl.specs.Mesh.{MeshValue, IsDatAt, map_count, dat_count, map_name, dat_name, set_count, set_size, map_to, dat_set, dat_dim, dat_values, IsInRange}
use Rattle.mesh_decl.specs.Named.{Names, NamesOne}
use Rattle.mesh_decl.specs.Owners.{owners_in, owner_of}
use Rattle.renumber.specs.Neighbours.{are_neighbours}
use Rattle.partition.specs.declared.part_text.refusals.PartRefusal.{PartRefusal}
use Rattle.partition.specs.Reading.{Reads, Read}
use Rattle.partition.specs.Derive.{AreDerived}
use Rattle.partition.specs.OneDerived.{IsOneBlocks, IsOneDerived}
use Rattle.partition.specs.OneOwner.{IsOneGrowth, IsOneBisection}
use Rattle.renumber.specs.CuthillMcKee.{IsCuthillMcKee}
use Rattle.renumber.specs.OneNumbering.{IsOneIdentity, IsOneCuthillMcKee}
use Rattle.partition.specs.Parts.{Parts, Block, Bisect, Grow, Text, NumbersRefusal, OwnersRefusal, Unspelled}
use Rattle.partition.specs.Judgements.{NumbersAre, AreBisected, AreGrown, OwnersAre}
use Rattle.partition.specs.Laws.{SamePerms, SameOwners, SameOutcome}

-- the first of a name is one
pub one_first : NamesOne → (n : ℕ) (name_of : ℕ → List ℕ) (name : List ℕ) (j k : ℕ) → Names n name_of name (Some j) → Names n name_of name (Some k) → j ≡ k
one_first one n name_of name j k a b = let e : Some j ≡ Some k = one n name_of name (Some j) (Some k) a b in ap (number_or k) e
  where
    number_or : ℕ → Option ℕ → ℕ
    number_or d None = d
    number_or d (Some n) = n

-- a name is not both there and not there
pub not_both : {X : Type 0} (n : ℕ) (name_of : ℕ → List ℕ) (name : List ℕ) (k : ℕ) → Names n name_of name (Some k) → Names n name_of name None → X
not_both n name_of name k a b = absurd (b k a.within a.is)

module _ (named : NamesOne) (identity : IsOneIdentity) (cuthill : IsOneCuthillMcKee) where
  pub one_numbers : (g : MeshValue) (name : Option (List ℕ)) (a b : Result Perms NumbersRefusal) → IsInRange g → NumbersAre g name a → NumbersAre g name b → SameOutcome SamePerms a b
  one_numbers g None (Ok x) (Ok y) range h k = identity g x y h k
  one_numbers g None (Ok x) (Err f) range h k = absurd k
  one_numbers g None (Err e) b range h k = absurd h
  one_numbers g (Some name) (Ok x) (Ok y) range h k =
      let e : h.0 ≡ k.0 = one_first named (map_count g) (map_name g) name h.0 k.0 h.1 k.1 in
      cuthill g k.0 x y range.sizes (range.maps k.0 k.1.within) (subst (λ m. IsCuthillMcKee g m x) e h.2) k.2
  one_numbers g (Some name) (Ok x) (Err f) range h k = not_both (map_count g) (map_name g) name h.0 h.1 k.0
  one_numbers g (Some name) (Err e) (Ok y) range h k = not_both (map_count g) (map_name g) name k.0 k.1 h.0
  one_numbers g (Some name) (Err e) (Err f) range h k = h.1 ∙ sym k.1

-- a law of partition texts
abbrev OneReading : Type 0
OneReading = (g : MeshValue) (ranks : ℕ) (bytes : List ℕ) (a b : Read) → Reads g ranks bytes a → Reads g ranks bytes b → a ≡ b

module _ (named : NamesOne) (blocks : IsOneBlocks) (derived : IsOneDerived) (bisection : IsOneBisection) (growth : IsOneGrowth) (reading : OneReading) where
  module _ (g : MeshValue) (ranks : ℕ) (range : IsInRange g) (x y : Owners) (count : x.ranks ≡ ranks) (other : y.ranks ≡ ranks) where
    -- from the same owners of one set
    from_set : (t : ℕ) → owners_in x t ≡ owners_in y t → AreDerived g x (λ s. nat_eq s t) (owners_in x) → AreDerived g y (λ s. nat_eq s t) (owners_in y) → SameOwners x y
    from_set t e h k =
        let same : x.ranks ≡ y.ranks = count ∙ sym other in (
          same,
          derived g x y (λ s. nat_eq s t) (owners_in x) (owners_in y) range.maps same
              (λ s l z. subst (λ n. owners_in x n ≡ owners_in y n) (sym (eqb-true s t z)) e) h k,
        )

  one_bisected : (g : MeshValue) (ranks d : ℕ) (x y : Owners) → IsInRange g → IsDatAt g d → AreBisected g ranks d x → AreBisected g ranks d y → SameOwners x y
  one_bisected g ranks d x y range at h k =
      from_set g ranks range x y h.count k.count (dat_set g d)
      (bisection (set_size g (dat_set g d)) ranks (dat_values g d) (dat_dim g d) (owners_in x (dat_set g d)) (owners_in y (dat_set g d))
      (h.derived.owners.lengths (dat_set g d) at.set) (k.derived.owners.lengths (dat_set g d) at.set) h.cuts k.cuts)
      h.derived k.derived

  one_grown : (g : MeshValue) (ranks m : ℕ) (x y : Owners) → IsInRange g → 0 < ranks → m < map_count g → AreGrown g ranks m x → AreGrown g ranks m y → SameOwners x y
  unfolding owner_of
  one_grown g ranks m x y range some l h k =
      let t : ℕ = map_to g m in
      let lt : t < set_count g = (range.maps m l).to in
      let ex : length (owners_in x t) ≡ set_size g t = h.derived.owners.lengths t lt in
      let ey : length (owners_in y t) ≡ set_size g t = k.derived.owners.lengths t lt in
      let same : owners_in x t ≡ owners_in y t = ext_get_or 0 (owners_in x t) (owners_in y t) (ex ∙ sym ey)
      (λ i li. growth (set_size g t) ranks (are_neighbours g m) (owner_of x t) (owner_of y t) some h.grown k.grown i (omega arith)) in
      from_set g ranks range x y h.count k.count t same h.derived k.derived

  abbrev list_or : Read → List (List ℕ)
  list_or (Ok xs) = xs
  list_or (Err e) = []

  abbrev refusal_or : PartRefusal → Read → PartRefusal
  refusal_or d (Ok xs) = d
  refusal_or d (Err e) = e

  not_both_read : {X : Type 0} (g : MeshValue) (ranks : ℕ) (bytes : List ℕ) (xs : List (List ℕ)) (e : PartRefusal) → Reads g ranks bytes (Ok xs) → Reads g ranks bytes (Err e) → X
  not_both_read g ranks bytes xs e h k = let a : Read = Ok xs in let b : Read = Err e in let z : a ≡ b = reading g ranks bytes a b h k in absurd (cc)

  pub one_owners : (g : MeshValue) (ranks : ℕ) (parts : Parts) (a b : Result Owners OwnersRefusal) → IsInRange g → ((d : ℕ) → d < dat_count g → IsDatAt g d) → 0 < ranks
      → OwnersAre g ranks parts a → OwnersAre g ranks parts b → SameOutcome SameOwners a b
  one_owners g ranks Block (Ok x) (Ok y) range dats some h k = (h.count ∙ sym k.count, blocks g ranks x y h k)
  one_owners g ranks Block (Ok x) (Err f) range dats some h k = absurd k
  one_owners g ranks Block (Err e) b range dats some h k = absurd h
  one_owners g ranks (Bisect name) (Ok x) (Ok y) range dats some h k =
      let e : h.0 ≡ k.0 = one_first named (dat_count g) (dat_name g) name h.0 k.0 h.1 k.1 in
      one_bisected g ranks k.0 x y range (dats k.0 k.1.within) (subst (λ d. AreBisected g ranks d x) e h.2) k.2
  one_owners g ranks (Bisect name) (Ok x) (Err f) range dats some h k = not_both (dat_count g) (dat_name g) name h.0 h.1 k.0
  one_owners g ranks (Bisect name) (Err e) (Ok y) range dats some h k = not_both (dat_count g) (dat_name g) name k.0 k.1 h.0
  one_owners g ranks (Bisect name) (Err e) (Err f) range dats some h k = h.1 ∙ sym k.1
  one_owners g ranks (Grow name) (Ok x) (Ok y) range dats some h k =
      let e : h.0 ≡ k.0 = one_first named (map_count g) (map_name g) name h.0 k.0 h.1 k.1 in
      one_grown g ranks k.0 x y range some k.1.within (subst (λ m. AreGrown g ranks m x) e h.2) k.2
  one_owners g ranks (Grow name) (Ok x) (Err f) range dats some h k = not_both (map_count g) (map_name g) name h.0 h.1 k.0
  one_owners g ranks (Grow name) (Err e) (Ok y) range dats some h k = not_both (map_count g) (map_name g) name k.0 k.1 h.0
  one_owners g ranks (Grow name) (Err e) (Err f) range dats some h k = h.1 ∙ sym k.1
  one_owners g ranks (Text bytes) (Ok x) (Ok y) range dats some h k =
      (h.0 ∙ sym k.0, ap list_or (reading g ranks bytes (Ok x.sets.items) (Ok y.sets.items) h.1 k.1))
  one_owners g ranks (Text bytes) (Ok x) (Err f) range dats some h k = not_both_read g ranks bytes x.sets.items k.0 h.1 k.1
  one_owners g ranks (Text bytes) (Err e) (Ok y) range dats some h k = not_both_read g ranks bytes y.sets.items h.0 k.1 h.1
  one_owners g ranks (Text bytes) (Err e) (Err f) range dats some h k =
      h.2 ∙ (ap Unspelled (ap (refusal_or h.0) (reading g ranks bytes (Err h.0) (Err k.0) h.1 k.1)) ∙ sym k.2)
