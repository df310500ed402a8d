-- Numbers of elements that are told by lists of elements.
use Rattle.std.specs.Prelude.{ℕ, ◌<◌, nat_eq, List, Vec, [], map, All, slice_index_or, if◌then◌else◌}
use Rattle.std.specs.declared.alloc.Global.{Global}
use Rattle.std.specs.List.{list_any}
use Rattle.local_mesh.specs.declared.halo_lists.types.SetHalo.{SetHalo}
use Rattle.local_mesh.specs.declared.halo_lists.types.Halos.{Halos}

-- each number is below n
abbrev pub AllBelow : List ℕ → ℕ → Type 0
AllBelow xs n = All (λ (x : ℕ). x < n) xs

-- an element's number: this one where the element is among these, else the one that it had
abbrev pub marked : List ℕ → (number old : ℕ) → (element : ℕ) → ℕ
marked elements number old x = if list_any (λ y. nat_eq y x) elements then number else old

-- by the owner of an element: 0 where it is this rank, else 3
abbrev pub own_or_other : (rank owner : ℕ) → ℕ
own_or_other rank owner = if nat_eq owner rank then 0 else 3

-- by rank what it imports to execute of a set
unfoldable pub exec_in : Halos → ℕ → List (Vec ℕ Global)
exec_in h s = slice_index_or (map (λ (x : SetHalo). x.exec.items) h.sets.items) s []

-- by rank what it imports to read of a set
unfoldable pub nonexec_in : Halos → ℕ → List (Vec ℕ Global)
nonexec_in h s = slice_index_or (map (λ (x : SetHalo). x.nonexec.items) h.sets.items) s []
