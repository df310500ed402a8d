-- What halos hold, as lists alone.
use Rattle.std.specs.Prelude.{ℕ, Bool, List, Vec, map}
use Rattle.std.specs.declared.alloc.Global.{Global}
use Rattle.local_mesh.specs.declared.halo_lists.types.SetHalo.{SetHalo}
use Rattle.local_mesh.specs.declared.halo_lists.types.Halos.{Halos}

-- the lists of a list of lists
unfoldable pub lists_of : List (Vec ℕ Global) → List (List ℕ)
lists_of lists = map (λ (v : Vec ℕ Global). v.items) lists

-- the halo of one set: by rank what it imports to execute and to read, by owner and rank the exports, and the core elements
pub record SetHaloValue : Type 0 where
  pub exec : List (List ℕ)
  pub nonexec : List (List ℕ)
  pub exports : List (List (List ℕ))
  pub core : List Bool

-- the lists that the halo of a set holds
unfoldable pub set_halo_value : SetHalo → SetHaloValue
set_halo_value h = record {
  exec = lists_of h.exec.items;
  nonexec = lists_of h.nonexec.items;
  exports = map (λ (v : Vec (Vec ℕ Global) Global). lists_of v.items) h.exports.items;
  core = h.core.items;
}

-- the halos of each set, over some ranks
pub record HalosValue : Type 0 where
  pub ranks : ℕ
  pub sets : List SetHaloValue

-- the lists that halos hold
unfoldable pub halos_value : Halos → HalosValue
halos_value h = record { ranks = h.ranks; sets = map set_halo_value h.sets.items }
