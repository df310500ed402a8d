-- A renumbering is one.
use Rattle.std.proofs.Common.{◌≡◌, ◌≢◌, ℕ, zero, suc, ◌+◌, ◌*◌, ◌^◌, ◌<◌, ◌≤◌, Bool, false, List, [], length, take, reverse, get_or, refl, sym, ap, ◌∙◌, arith, ⊎_elim, inr, subst}
use Rattle.std.specs.List.{Contains}
use Rattle.std.proofs.lemmas.Bool.{cases_eq, cases_lt}
use Rattle.std.proofs.lemmas.List.{ext_get_or, get_or_default, get_or-take, length-take-le, length-reverse}
use Rattle.mesh_decl.specs.declared.owners.Perms.{Perms}
use Rattle.mesh_decl.specs.Mesh.{MeshValue, IsMapAt, set_count, set_size, map_from, map_to, map_dim, target}
use Rattle.mesh_decl.specs.Owners.{ArePerms, IsNumbering, perm_in}
use Rattle.renumber.specs.Taken.{IsTaken, Rises, earliest}
use Rattle.renumber.specs.Neighbours.{are_neighbours}
use Rattle.renumber.specs.Degrees.{degree_order}
use Rattle.renumber.specs.OneOrder.{AreApart, IsOneOrder, DegreesAreApart}
use Rattle.renumber.proofs.breadth_order.OneOrder.{in_front, low_parts}
use Rattle.renumber.specs.Identity.{IsIdentity}
use Rattle.renumber.specs.CuthillMcKee.{IsCuthillMcKee, IsByTargets, least_below, target_key}

-- ---- lists of numbers

same_kept : (n : ℕ) (xs ys : List ℕ) → length xs ≡ n → length ys ≡ n → ((x : ℕ) → x < n → get_or xs x 0 ≡ x) → ((x : ℕ) → x < n → get_or ys x 0 ≡ x) → xs ≡ ys
same_kept n xs ys ex ey h k = ext_get_or 0 xs ys (ex ∙ sym ey) (λ x l. let lx : x < n = omega arith in h x lx ∙ sym (k x lx))

same_perms : (g : MeshValue) (a b : Perms) → ArePerms g a → ArePerms g b → ((s : ℕ) → s < set_count g → perm_in a s ≡ perm_in b s) → a.sets.items ≡ b.sets.items
unfolding perm_in
same_perms g a b h k e = ext_get_or [] a.sets.items b.sets.items (h.sets ∙ sym k.sets) (λ s l. e s (omega (arith, h.sets)))

pub one_identity : (g : MeshValue) (a b : Perms) → IsIdentity g a → IsIdentity g b → a.sets.items ≡ b.sets.items
one_identity g a b h k = same_perms g a b h.perms k.perms
    (λ s l. same_kept (set_size g s) (perm_in a s) (perm_in b s) (h.perms.numbers s l).length (k.perms.numbers s l).length (λ x lx. h.kept s x l lx) (λ x lx. k.kept s x l lx))

-- no two elements are near
abbrev none : ℕ → ℕ → Bool
none x y = false

-- by rising keys the next of a numbering is the least
rising_is_taken : (n : ℕ) (key : ℕ → ℕ) (xs : List ℕ) → IsNumbering n xs → Rises key xs → IsTaken n none key xs
unfolding earliest
rising_is_taken n key xs num rises k l =
    let lk : k < n = omega (arith, num.length) in
    record {
      within = num.within k lk;
      new = λ c. (
          let m : length (take k xs) ≡ k = length-take-le k xs (omega arith) in
          let lc : c.0 < k = (let z : c.0 < length (take k xs) = c.1 in omega arith) in
          let e : get_or xs c.0 0 ≡ get_or xs k 0 = sym (get_or-take k xs c.0 0 lc) ∙ (get_or_default (take k xs) c.0 0 (get_or xs k 0) c.1 ∙ c.2) in
          let s : c.0 ≡ k = num.distinct c.0 k (omega arith) lk e in
          absurd (omega arith));
      least = λ y ly ny. (
          let w = num.every y ly in
          ⊎_elim
          (λ (q : w.0 < k). absurd (ny (subst (λ z. Contains (take k xs) z) w.2 (in_front xs k w.0 (omega arith) q))))
          (λ (q : k ≤ w.0).
          let r : key (get_or xs k 0) ≤ key (get_or xs w.0 0) = rises k w.0 q (omega (arith, num.length, w.1)) in
          inr (refl, subst (λ z. key (get_or xs k 0) ≤ key z) w.2 r))
          (cases_lt w.0 k));
    }

-- ---- keys by targets

same_least : (n : ℕ) (f h : ℕ → ℕ) → ((i : ℕ) → i < n → f i ≡ h i) → least_below n f ≡ least_below n h
same_least zero f h e = refl
same_least (suc n) f h e = rw (same_least n f h (λ i l. e i (omega arith)), e n (omega arith)) refl

same_rises : (n : ℕ) (key other : ℕ → ℕ) (xs : List ℕ) → IsNumbering n xs → ((x : ℕ) → x < n → key x ≡ other x) → Rises key xs → Rises other xs
same_rises n key other xs num e rises i j le l =
    let lj : j < n = omega (arith, num.length) in
    let li : i < n = omega arith in
    subst (λ z. z ≤ other (get_or xs j 0)) (e (get_or xs i 0) (num.within i li)) (subst (λ z. key (get_or xs i 0) ≤ z) (e (get_or xs j 0) (num.within j lj)) (rises i j le l))

module _ (one : IsOneOrder) (degrees : DegreesAreApart) (g : MeshValue) (m : ℕ) (sizes : (s : ℕ) → set_size g s < 2 ^ 32) (at : IsMapAt g m) where
  keys_apart : (numbers : ℕ → ℕ) → AreApart (set_size g (map_from g m)) (target_key g m numbers)
  unfolding target_key
  keys_apart numbers x y lx ly e =
      let s = sizes (map_from g m) in
      low_parts (least_below (map_dim g m) (λ i. numbers (target g m x i))) (least_below (map_dim g m) (λ i. numbers (target g m y i))) x y (omega arith) (omega arith) e

  same_keys : (xs : List ℕ) (f h : ℕ → ℕ) → IsNumbering (set_size g (map_to g m)) xs → ((k : ℕ) → k < length xs → f (get_or xs k 0) ≡ k)
      → ((k : ℕ) → k < length xs → h (get_or xs k 0) ≡ k) → (x : ℕ) → x < set_size g (map_from g m)
      → target_key g m f x ≡ target_key g m h x
  unfolding target_key
  same_keys xs f h num ef eh x lx = ap (λ z. z * 2 ^ 32 + x) (same_least (map_dim g m) (λ i. f (target g m x i)) (λ i. h (target g m x i))
      (λ i li.
      let w = num.every (target g m x i) (at.within x i lx li) in
      let l : w.0 < length xs = omega (arith, num.length, w.1) in
      subst (λ z. f z ≡ h z) w.2 (ef w.0 l ∙ sym (eh w.0 l))))

  one_leading : (xs ys zs : List ℕ) → IsNumbering (set_size g (map_to g m)) xs → IsNumbering (set_size g (map_from g m)) ys
      → IsNumbering (set_size g (map_from g m)) zs → IsByTargets g m xs ys → IsByTargets g m xs zs → ys ≡ zs
  one_leading xs ys zs nx ny nz h k =
      let n : ℕ = set_size g (map_from g m) in
      let key : ℕ → ℕ = target_key g m h.numbers in
      let rises : Rises key zs = same_rises n (target_key g m k.numbers) key zs nz (same_keys xs k.numbers h.numbers nx k.numbered h.numbered) k.rises in
      one n none key ys zs (keys_apart h.numbers) ny.length nz.length (rising_is_taken n key ys ny h.rises) (rising_is_taken n key zs nz rises)

  length_order : (a : Perms) (h : IsCuthillMcKee g m a) → length h.order ≡ set_size g (map_to g m)
  length_order a h = sym (length-reverse h.order) ∙ (sym (ap (λ (z : List ℕ). length z) h.reversed) ∙ (h.perms.numbers (map_to g m) at.to).length)

  one_reached : (a b : Perms) → IsCuthillMcKee g m a → IsCuthillMcKee g m b → perm_in a (map_to g m) ≡ perm_in b (map_to g m)
  one_reached a b h k =
      let n : ℕ = set_size g (map_to g m) in
      let s = sizes (map_to g m) in
      let apart : AreApart n (degree_order g m) = λ x y lx ly e. degrees g m x y (omega arith) (omega arith) e in
      let e : h.order ≡ k.order = one n (are_neighbours g m) (degree_order g m) h.order k.order apart (length_order a h) (length_order b k) h.taken k.taken in
      h.reversed ∙ (ap (λ (z : List ℕ). reverse z) e ∙ sym k.reversed)

  pub one_cuthill_mckee : (a b : Perms) → IsCuthillMcKee g m a → IsCuthillMcKee g m b → a.sets.items ≡ b.sets.items
  one_cuthill_mckee a b h k = same_perms g a b h.perms k.perms each
    where
      to : perm_in a (map_to g m) ≡ perm_in b (map_to g m)
      to = one_reached a b h k

      from : map_from g m ≢ map_to g m → perm_in a (map_from g m) ≡ perm_in b (map_from g m)
      from ne = one_leading (perm_in a (map_to g m)) (perm_in a (map_from g m)) (perm_in b (map_from g m))
          (h.perms.numbers (map_to g m) at.to) (h.perms.numbers (map_from g m) at.from) (k.perms.numbers (map_from g m) at.from)
          (h.leading ne) (subst (λ (z : List ℕ). IsByTargets g m z (perm_in b (map_from g m))) (sym to) (k.leading ne))

      each : (s : ℕ) → s < set_count g → perm_in a s ≡ perm_in b s
      each s l = ⊎_elim
          (λ (e : s ≡ map_to g m). rw e to)
          (λ (ne : s ≡ map_to g m → ⊥). ⊎_elim
          (λ (e : s ≡ map_from g m). subst (λ z. perm_in a z ≡ perm_in b z) (sym e) (from (λ q. ne (e ∙ q))))
          (λ (nf : s ≡ map_from g m → ⊥).
          same_kept (set_size g s) (perm_in a s) (perm_in b s) (h.perms.numbers s l).length (k.perms.numbers s l).length (λ x lx. h.others s x l lx nf ne) (λ x lx. k.others s x l lx nf ne))
          (cases_eq s (map_from g m)))
          (cases_eq s (map_to g m))
