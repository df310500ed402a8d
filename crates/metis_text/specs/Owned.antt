-- Owners by such a partition.
use Rattle.std.specs.Prelude.{◌≡◌, ◌<◌, ℕ, nat_eq, List, length, Option, Ok, Err, Vec}
use Rattle.std.specs.declared.alloc.Global.{Global}
use Rattle.mesh_decl.specs.declared.owners.Owners.{Owners}
use Rattle.mesh_decl.specs.Mesh.{MeshValue, set_size}
use Rattle.partition.specs.Derive.{AreDerived, is_given, given_in}
use Rattle.metis_text.specs.declared.owner_text.metis.refusals.MetisRefusal.{MetisRefusal}
use Rattle.metis_text.specs.declared.owner_text.metis.refusals.MetisRefusal.TheVariants.{OutOfMemory}
use Rattle.metis_text.specs.Numbers.{ranks_in}

-- The elements of a set have the ranks of the text, in order, and those of the other sets are derived from these.
pub record AreByMetis (g : MeshValue) (ranks set : ℕ) (bytes : List ℕ) (o : Owners) : Type 0 where
  pub numbers : List ℕ
  pub read : ranks_in ranks (set_size g set) bytes ≡ Ok numbers
  pub count : o.ranks ≡ ranks
  pub derived : AreDerived g o (λ s. nat_eq s set) (λ s. numbers)

-- the text is refused so; want of memory is free
abbrev pub IsRefused : MeshValue → (ranks set : ℕ) → (bytes : List ℕ) → MetisRefusal → Type 0
IsRefused g ranks set bytes OutOfMemory = Unit {0}
IsRefused g ranks set bytes r = ranks_in ranks (set_size g set) bytes ≡ Err r

-- of so many sets, one alone is given owners, and these
pub record AreOneGiven (sets set : ℕ) (owners : List ℕ) (given : List (Option (Vec ℕ Global))) : Type 0 where
  pub count : length given ≡ sets
  pub is : (s : ℕ) → s < sets → is_given given s ≡ nat_eq s set
  pub owners_of : given_in given set ≡ owners
