-- The renumbering of Cuthill and McKee (1969), in reverse (Liu and Sherman 1976).
use Rattle.std.specs.Prelude.{◌≡◌, ◌≢◌, ℕ, zero, suc, ◌+◌, ◌-◌, ◌*◌, ◌^◌, ◌<◌, min, List, length, reverse, slice_index}
use Rattle.mesh_decl.specs.declared.owners.Perms.{Perms}
use Rattle.mesh_decl.specs.Mesh.{MeshValue, set_count, set_size, map_from, map_to, map_dim, target}
use Rattle.mesh_decl.specs.Owners.{ArePerms, IsNumbering, perm_in}
use Rattle.renumber.specs.Neighbours.{are_neighbours}
use Rattle.renumber.specs.Degrees.{degree_order}
use Rattle.renumber.specs.Taken.{IsTaken, Rises}

-- the least of f 0, f 1, .. below n; where n is 0, 2 ^ 32 - 1, which is above all numbers of elements
abbrev pub least_below : ℕ → (ℕ → ℕ) → ℕ
least_below zero f = 2 ^ 32 - 1
least_below (suc n) f = min (least_below n f) (f n)

-- orders elements of the set from which map m leads by (least new number among the targets, number)
unfoldable pub target_key : MeshValue → ℕ → (ℕ → ℕ) → ℕ → ℕ
target_key g m numbers x = least_below (map_dim g m) (λ i. numbers (target g m x i)) * 2 ^ 32 + x

-- ys has elements by (least new number among their targets, number), where xs has the targets' original numbers by new number
pub record IsByTargets (g : MeshValue) (m : ℕ) (xs ys : List ℕ) : Type 0 where
  pub numbers : ℕ → ℕ
  pub numbered : (k : ℕ) → k < length xs → numbers (slice_index xs k) ≡ k
  pub rises : Rises (target_key g m numbers) ys

-- the original numbers of set s by new number, where those of the set to which map m leads are xs
pub record IsSetOrder (g : MeshValue) (m : ℕ) (xs : List ℕ) (s : ℕ) (ys : List ℕ) : Type 0 where
  pub numbering : IsNumbering (set_size g s) ys
  pub reached : s ≡ map_to g m → ys ≡ xs
  pub leading : s ≡ map_from g m → s ≢ map_to g m → IsByTargets g m xs ys
  pub others : s ≢ map_from g m → s ≢ map_to g m → (x : ℕ) → x < set_size g s → slice_index ys x ≡ x

-- The set to which map m leads is in the reverse of an order of taking; the set from which it leads, where that is another, by its targets;
-- all other sets are kept.
pub record IsCuthillMcKee (g : MeshValue) (m : ℕ) (p : Perms) : Type 0 where
  pub perms : ArePerms g p
  pub order : List ℕ
  pub taken : IsTaken (set_size g (map_to g m)) (are_neighbours g m) (degree_order g m) order
  pub reversed : perm_in p (map_to g m) ≡ reverse order
  pub leading : map_from g m ≢ map_to g m → IsByTargets g m (perm_in p (map_to g m)) (perm_in p (map_from g m))
  pub others : (s x : ℕ) → s < set_count g → x < set_size g s → s ≢ map_from g m → s ≢ map_to g m → slice_index (perm_in p s) x ≡ x
