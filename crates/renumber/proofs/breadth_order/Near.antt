-- Neighbours, and orders by keys that agree.
use Rattle.std.proofs.Common.{◌≡◌, ℕ, zero, suc, ◌+◌, ◌<◌, ◌≤◌, Bool, true, false, not, ◌&&◌, nat_eq, List, arith, inl, inr, ⊎_elim, subst, refl}
use Rattle.std.proofs.lemmas.Bool.{cases_Bool, eqb-true, and_parts}
use Rattle.mesh_decl.specs.Mesh.{MeshValue, IsMapAt, map_count, set_size, map_from, map_to, map_dim, target}
use Rattle.lemmas.specs.Below.{any_below, count_below}
use Rattle.lemmas.proofs.Below.{any_witness}
use Rattle.renumber.specs.Neighbours.{has_target, are_neighbours}
use Rattle.renumber.specs.Taken.{earliest, IsNext}

pub target_within : (g : MeshValue) (m e x : ℕ) → IsMapAt g m → m < map_count g → e < set_size g (map_from g m) → has_target g m e x ≡ true → x < set_size g (map_to g m)
unfolding has_target
target_within g m e x ok lm le t =
    let w = any_witness (map_dim g m) (λ i. nat_eq (target g m e i) x) t in
    let q : target g m e w.0 ≡ x = eqb-true (target g m e w.0) x w.2 in
    subst (λ z. z < set_size g (map_to g m)) q (ok.within e w.0 le w.1)

-- neighbours are elements of the to set
pub neighbours_within : (g : MeshValue) (m x y : ℕ) → IsMapAt g m → m < map_count g → are_neighbours g m x y ≡ true → (x < set_size g (map_to g m)) × (y < set_size g (map_to g m))
unfolding are_neighbours
neighbours_within g m x y ok lm t =
    let a = and_parts (any_below (set_size g (map_from g m)) (λ e. has_target g m e y && has_target g m e x)) (not (nat_eq x y)) t in
    let w = any_witness (set_size g (map_from g m)) (λ e. has_target g m e y && has_target g m e x) a.0 in
    let b = and_parts (has_target g m w.0 y) (has_target g m w.0 x) w.2 in
    (target_within g m w.0 x ok lm w.1 b.1, target_within g m w.0 y ok lm w.1 b.0)

-- the next element by keys that agree
pub next_agree : (n : ℕ) (near : ℕ → ℕ → Bool) (key key' : ℕ → ℕ) (taken : List ℕ) (z : ℕ) → ((y : ℕ) → y < n → key y ≡ key' y) → IsNext n near key taken z → IsNext n near key' taken z
next_agree n near key key' taken z k next = record {
  within = next.within;
  new = next.new;
  least = λ y l absent.
      let kz = k z next.within in
      let ky = k y l in
      ⊎_elim
      (λ (a : earliest near taken z < earliest near taken y). inl a)
      (λ (b : (earliest near taken z ≡ earliest near taken y) × (key z ≤ key y)). inr (b.0, rw (← kz, ← ky) b.1))
      (next.least y l absent);
}

pub count_within : (n : ℕ) (p : ℕ → Bool) → count_below n p ≤ n
count_within zero p = omega arith
count_within (suc n) p = ⊎_elim
    (λ (e : p n ≡ true). let h = count_within n p in let s : count_below (suc n) p ≡ count_below n p + 1 = rw e refl in omega arith)
    (λ (e : p n ≡ false). let h = count_within n p in let s : count_below (suc n) p ≡ count_below n p + 0 = rw e refl in omega arith)
    (cases_Bool (p n))
