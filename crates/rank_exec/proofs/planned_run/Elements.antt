-- What a rank has of a set by local numbers is what it owns and imports by original ones.
use Rattle.std.proofs.Common.{◌≡◌, ◌≢◌, ◌<◌, ◌≤◌, ◌+◌, ◌-◌, ℕ, Bool, true, sym, ap, subst, ◌∙◌, ⊎_elim, arith, List, [], length, get_or, take, drop}
use Rattle.std.specs.Prelude.{◌↔◌, ◌||◌, min, nat_eq, Contains}
use Rattle.std.specs.Set.{is_member}
use Rattle.std.proofs.lemmas.Bool.{cases_lt, or_cases, or_left, or_right, eqb-true}
use Rattle.std.proofs.lemmas.Bool.Decides.{Decides-eqb}
use Rattle.std.proofs.lemmas.List.{get_or-map, get_or-drop, get_or-take, get_or_default, length-drop, length-take}
use Rattle.std.proofs.lemmas.Map.Made.{is_member-Decides}
use Rattle.lemmas.specs.Below.{HasNumbers}
use Rattle.mesh_decl.specs.declared.owners.Owners.{Owners}
use Rattle.mesh_decl.specs.declared.owners.Perms.{Perms}
use Rattle.mesh_decl.specs.Mesh.{MeshValue, IsMesh, IsDatAt, set_count, set_size, dat_count}
use Rattle.mesh_decl.specs.Owners.{owner_of}
use Rattle.local_mesh.specs.Halo.{owns, imports, imports_execute, imports_nonexecute, has_copy}
use Rattle.local_mesh.specs.declared.types.RankMesh.{RankMesh}
use Rattle.local_mesh.specs.LocalMesh.{originals_in, IsRankMesh}
use Rattle.local_mesh.specs.Numbers.{OwnedComeFirst, OriginalsAreDistinct, OriginalsAreHeld}
use Rattle.loop_plan.specs.Pairs.{sets_of, own_in}
use Rattle.loop_plan.specs.Distributed.{IsDistributed}
use Rattle.lemmas.proofs.Lists.{element_at}

-- the laws of the lower crates
pub record Given : Type 0 where
  pub owned : OwnedComeFirst
  pub distinct : OriginalsAreDistinct
  pub held : OriginalsAreHeld
  pub others : (g : MeshValue) (o : Owners) (s x r : ℕ) → imports g o s x r ≡ true → owner_of o s x ≢ r
  pub listed : (n : ℕ) (t : ℕ → Bool) → HasNumbers n t
  pub dats : (g : MeshValue) → IsMesh g → (d : ℕ) → d < dat_count g → IsDatAt g d

-- a place of the front of a list
in_front : (n : ℕ) (xs : List ℕ) (k : ℕ) → k < length (take n xs) → (k < n) × (k < length xs)
in_front n xs k l = (let e : length (take n xs) ≡ min n (length xs) = length-take n xs in (omega arith, omega arith))

to_front : (n : ℕ) (xs : List ℕ) (k : ℕ) → k < n → k < length xs → k < length (take n xs)
to_front n xs k l m = (let e : length (take n xs) ≡ min n (length xs) = length-take n xs in omega arith)

-- an owner is one
owner_is : (o : Owners) (s x r : ℕ) → owns o s x r ≡ true → owner_of o s x ≡ r
unfolding owns
owner_is o s x r h = eqb-true (owner_of o s x) r h

import_from : (g : MeshValue) (o : Owners) (s x r : ℕ) → (imports_execute g o s x r || imports_nonexecute g o s x r) ≡ true → imports g o s x r ≡ true
unfolding imports
import_from g o s x r h = h

import_to : (g : MeshValue) (o : Owners) (s x r : ℕ) → imports g o s x r ≡ true → (imports_execute g o s x r || imports_nonexecute g o s x r) ≡ true
unfolding imports
import_to g o s x r h = h

-- rank, set
module _ (laws : Given) (g : MeshValue) (o : Owners) (n : Perms) (meshes : List RankMesh) (d : IsDistributed g o n meshes) (r t : ℕ) (lr : r < o.ranks) (lt : t < set_count g) where
  there : r < length meshes
  there = subst (λ z. r < z) (sym d.are_meshes.count) lr

  mesh : (m : RankMesh) × IsRankMesh g o n r m × (m.sets.items ≡ sets_of meshes r)
  unfolding sets_of
  mesh =
      let m : (x : RankMesh) × ((e : RankMesh) → get_or meshes r e ≡ x) = element_at meshes r there in (
        m.0,
        subst (IsRankMesh g o n r) (m.1 m.0) (d.are_meshes.ranks r m.0 lr),
        sym (get_or-map (λ (x : RankMesh). x.sets.items) meshes r m.0 [] there ∙ ap (λ (x : RankMesh). x.sets.items) (m.1 m.0)),
      )

  abbrev pub originals : List ℕ
  originals = originals_in (sets_of meshes r) t

  abbrev pub own : ℕ
  own = own_in (sets_of meshes r) t

  first : (k : ℕ) → k < length originals → (k < own) ↔ (owns o t (get_or originals k 0) r ≡ true)
  first = subst (λ z. (k : ℕ) → k < length (originals_in z t) → (k < own_in z t) ↔ (owns o t (get_or (originals_in z t) k 0) r ≡ true)) mesh.2
      (λ k l. laws.owned g o n r mesh.0 mesh.1 t k lt l)

  pub apart : (j k : ℕ) → j < length originals → k < length originals → get_or originals j 0 ≡ get_or originals k 0 → j ≡ k
  apart = subst (λ z. (j k : ℕ) → j < length (originals_in z t) → k < length (originals_in z t) → get_or (originals_in z t) j 0 ≡ get_or (originals_in z t) k 0 → j ≡ k) mesh.2
      (λ j k lj lk. laws.distinct g o n r mesh.0 d.are_perms mesh.1 t j k lt lj lk)

  holds : (x : ℕ) → Contains originals x ↔ ((x < set_size g t) × (has_copy g o t x r ≡ true))
  holds = subst (λ z. (x : ℕ) → Contains (originals_in z t) x ↔ ((x < set_size g t) × (has_copy g o t x r ≡ true))) mesh.2
      (λ x. laws.held g o n r mesh.0 d.are_perms mesh.1 t x lt)

  -- what stands among the owned is owned
  pub owned_is : (x : ℕ) → is_member nat_eq (take own originals) x ≡ true → owns o t x r ≡ true
  owned_is x h =
      let c : Contains (take own originals) x = (is_member-Decides Decides-eqb (take own originals) x).0 h in
      let l : (c.0 < own) × (c.0 < length originals) = in_front own originals c.0 c.1 in
      let e : get_or originals c.0 0 ≡ x = get_or_default originals c.0 0 x l.1 ∙ (sym (get_or-take own originals c.0 x l.0) ∙ c.2) in
      subst (λ z. owns o t z r ≡ true) e ((first c.0 l.1).0 l.0)

  pub is_owned : (x : ℕ) → x < set_size g t → owns o t x r ≡ true → is_member nat_eq (take own originals) x ≡ true
  is_owned x l h =
      let c : Contains originals x = (holds x).1 (l, or_left (owns o t x r) (imports_execute g o t x r || imports_nonexecute g o t x r) h) in
      let e : get_or originals c.0 0 ≡ x = get_or_default originals c.0 0 x c.1 ∙ c.2 in
      let f : c.0 < own = (first c.0 c.1).1 (subst (λ z. owns o t z r ≡ true) (sym e) h) in
      (is_member-Decides Decides-eqb (take own originals) x).1 (c.0, to_front own originals c.0 f c.1, get_or-take own originals c.0 x f ∙ c.2)

  -- what stands behind the owned is imported
  pub import_is : (x : ℕ) → is_member nat_eq (drop own originals) x ≡ true → (x < set_size g t) × (imports g o t x r ≡ true)
  import_is x h =
      let c : Contains (drop own originals) x = (is_member-Decides Decides-eqb (drop own originals) x).0 h in
      let lc : c.0 < length (drop own originals) = c.1 in
      let l : own + c.0 < length originals = (let a : length (drop own originals) ≡ length originals - own = length-drop own originals in omega arith) in
      let at : get_or originals (own + c.0) x ≡ x = sym (get_or-drop own originals c.0 x) ∙ c.2 in
      let e : get_or originals (own + c.0) 0 ≡ x = get_or_default originals (own + c.0) 0 x l ∙ at in
      let w : (x < set_size g t) × (has_copy g o t x r ≡ true) = (holds x).0 (own + c.0, l, at) in (
        w.0,
        import_from g o t x r (⊎_elim
            (λ (f : owns o t x r ≡ true). let i : own + c.0 < own = (first (own + c.0) l).1 (subst (λ z. owns o t z r ≡ true) (sym e) f) in absurd (omega arith))
            (λ (f : (imports_execute g o t x r || imports_nonexecute g o t x r) ≡ true). f)
            (or_cases (owns o t x r) (imports_execute g o t x r || imports_nonexecute g o t x r) w.1)),
      )

  pub is_import : (x : ℕ) → x < set_size g t → imports g o t x r ≡ true → is_member nat_eq (drop own originals) x ≡ true
  is_import x l h =
      let c : Contains originals x = (holds x).1 (l, or_right (owns o t x r) (imports_execute g o t x r || imports_nonexecute g o t x r) (import_to g o t x r h)) in
      let lc : c.0 < length originals = c.1 in
      let e : get_or originals c.0 0 ≡ x = get_or_default originals c.0 0 x c.1 ∙ c.2 in
      let f : own ≤ c.0 = ⊎_elim
      (λ (i : c.0 < own). absurd (laws.others g o t x r h (owner_is o t x r (subst (λ z. owns o t z r ≡ true) e ((first c.0 c.1).0 i)))))
      (λ (i : own ≤ c.0). i)
      (cases_lt c.0 own) in
      let a : length (drop own originals) ≡ length originals - own = length-drop own originals in
      let i : own + (c.0 - own) ≡ c.0 = omega arith in
      (is_member-Decides Decides-eqb (drop own originals) x).1
      (c.0 - own, omega arith, get_or-drop own originals (c.0 - own) x ∙ (ap (λ z. get_or originals z x) i ∙ c.2))
