-- What is owned, and what is executed, has the first local numbers; and an element has one.
use Rattle.std.proofs.Common.{◌≡◌, ℕ, ◌+◌, ◌<◌, ◌≤◌, ◌↔◌, Bool, true, false, ◌&&◌, ◌||◌, nat_lt, List, [], length, get_or, sym, ap, ◌∙◌, arith, ⊎_elim, subst}
use Rattle.std.proofs.lemmas.Bool.{cases_Bool, cases_lt, ltb_from_iff}
use Rattle.std.proofs.lemmas.List.{get_or-map}
use Rattle.mesh_decl.specs.declared.owners.Owners.{Owners}
use Rattle.mesh_decl.specs.declared.owners.Perms.{Perms}
use Rattle.mesh_decl.specs.Mesh.{MeshValue, set_count, set_size}
use Rattle.mesh_decl.specs.Owners.{ArePerms, perm_in}
use Rattle.mesh_decl.proofs.Public.{some_in}
use Rattle.lemmas.proofs.Below.{count_lt}
use Rattle.local_mesh.specs.Halo.{owns, executes, imports_execute, imports_nonexecute, is_core}
use Rattle.local_mesh.specs.declared.types.LocalSet.{LocalSet}
use Rattle.local_mesh.specs.declared.types.RankMesh.{RankMesh}
use Rattle.local_mesh.specs.Local.{earlier, local_number, AreInverse}
use Rattle.local_mesh.specs.Parts.{by_new}
use Rattle.local_mesh.specs.LocalMesh.{IsLocalSet, IsRankMesh, originals_in, executed_in}
use Rattle.local_mesh.specs.Numbers.{own_in, core_in}
use Rattle.local_mesh.proofs.Inverse.{number_own, number_exec, number_executed}
use Rattle.local_mesh.proofs.Numbered.{number_apart}
use Rattle.local_mesh.proofs.Closing.{originals_at, executed_at}

module _ (n : ℕ) (order : ℕ → ℕ) (p q r : ℕ → Bool) (original : List ℕ) (inv : AreInverse n order p q r original) where
  below_own : (j : ℕ) → j < n → p (order j) ≡ true → local_number n order p q r j < earlier order p n
  below_own j l t = rw (number_own n order p q r j t) (count_lt j n (λ i. p (order i)) l t)

  below_executed : (j : ℕ) → j < n → (p (order j) || q (order j)) ≡ true → local_number n order p q r j < earlier order p n + earlier order q n
  below_executed j l t = ⊎_elim
      (λ (e : p (order j) ≡ true). let a = below_own j l e in omega arith)
      (λ (e : p (order j) ≡ false).
      let f : q (order j) ≡ true = rw e at t in
      let a : earlier order q j < earlier order q n = count_lt j n (λ i. q (order i)) l f in
      rw (number_exec n order p q r j e f) (omega arith))
      (cases_Bool (p (order j)))

  not_own : (j : ℕ) → p (order j) ≡ false → earlier order p n ≤ local_number n order p q r j
  unfolding local_number
  not_own j e = ⊎_elim
      (λ (f : q (order j) ≡ true). rw (e, f) (omega arith))
      (λ (f : q (order j) ≡ false). rw (e, f) (omega arith))
      (cases_Bool (q (order j)))

  pub own_first : (k : ℕ) → k < length original → (k < earlier order p n) ↔ (p (get_or original k 0) ≡ true)
  own_first k l =
      let a = inv.numbered k l in
      let at : local_number n order p q r a.0 ≡ k = a.4 in (
        λ m. ap p a.3 ∙ ⊎_elim
            (λ (e : p (order a.0) ≡ true). e)
            (λ (e : p (order a.0) ≡ false). let b : earlier order p n ≤ local_number n order p q r a.0 = not_own a.0 e in absurd (omega arith))
            (cases_Bool (p (order a.0))),
        λ t. subst (λ z. z < earlier order p n) at (below_own a.0 a.1 (sym (ap p a.3) ∙ t)),
      )

  pub executed_first : (k : ℕ) → k < length original → (k < earlier order p n + earlier order q n) ↔ ((p (get_or original k 0) || q (get_or original k 0)) ≡ true)
  executed_first k l =
      let a = inv.numbered k l in
      let at : local_number n order p q r a.0 ≡ k = a.4 in (
        λ m. subst (λ z. (p z || q z) ≡ true) (sym a.3) (number_executed n order p q r a.0 (subst (λ z. z < earlier order p n + earlier order q n) (sym at) m)),
        λ t. subst (λ z. z < earlier order p n + earlier order q n) at (below_executed a.0 a.1 (subst (λ z. (p z || q z) ≡ true) a.3 t)),
      )

pub own_at : (sets : List LocalSet) (s : ℕ) (d : LocalSet) → s < length sets → own_in sets s ≡ (get_or sets s d).own
unfolding own_in
own_at sets s d l = get_or-map (λ (l : LocalSet). l.own) sets s d 0 l

core_at : (sets : List LocalSet) (s : ℕ) (d : LocalSet) → s < length sets → core_in sets s ≡ (get_or sets s d).core.items
unfolding core_in
core_at sets s d l = get_or-map (λ (l : LocalSet). l.core.items) sets s d [] l

module _ (g : MeshValue) (o : Owners) (p : Perms) (r : ℕ) (m : RankMesh) (is : IsRankMesh g o p r m) (s : ℕ) (l : s < set_count g) where
  has : s < length m.sets.items
  has = rw is.sets_count l

  some : LocalSet
  some = some_in m.sets.items s has

  set : IsLocalSet g o p s r (get_or m.sets.items s some)
  set = is.sets s some l

  at : originals_in m.sets.items s ≡ (get_or m.sets.items s some).original
  at = originals_at m.sets.items s some has

  own : own_in m.sets.items s ≡ earlier (by_new p s) (λ x. owns o s x r) (set_size g s)
  own = own_at m.sets.items s some has ∙ set.own

  executed : executed_in m.sets.items s ≡ earlier (by_new p s) (λ x. owns o s x r) (set_size g s) + earlier (by_new p s) (λ x. imports_execute g o s x r) (set_size g s)
  executed = let a = executed_at m.sets.items s some has in omega (arith, set.own, set.exec)

  pub owned_first : (k : ℕ) → k < length (originals_in m.sets.items s) → (k < own_in m.sets.items s) ↔ (owns o s (get_or (originals_in m.sets.items s) k 0) r ≡ true)
  owned_first k lk =
      let b : k < length (get_or m.sets.items s some).original = subst (λ (z : List ℕ). k < length z) at lk in
      rw (at, own) (own_first (set_size g s) (by_new p s) (λ x. owns o s x r) (λ x. imports_execute g o s x r)
      (λ x. imports_nonexecute g o s x r) (get_or m.sets.items s some).original set.inverse k b)

  pub executing_first : (k : ℕ) → k < length (originals_in m.sets.items s) → (k < executed_in m.sets.items s) ↔ (executes g o s (get_or (originals_in m.sets.items s) k 0) r ≡ true)
  unfolding executes
  executing_first k lk =
      let b : k < length (get_or m.sets.items s some).original = subst (λ (z : List ℕ). k < length z) at lk in
      rw (at, executed) (executed_first (set_size g s) (by_new p s) (λ x. owns o s x r) (λ x. imports_execute g o s x r)
      (λ x. imports_nonexecute g o s x r) (get_or m.sets.items s some).original set.inverse k b)

  pub distinct : ArePerms g p → (j k : ℕ) → j < length (originals_in m.sets.items s) → k < length (originals_in m.sets.items s)
      → get_or (originals_in m.sets.items s) j 0 ≡ get_or (originals_in m.sets.items s) k 0 → j ≡ k
  distinct perms j k lj lk e =
      let apart : (i h : ℕ) → i < h → h < length (get_or m.sets.items s some).original → get_or (get_or m.sets.items s some).original i 0 ≡ get_or (get_or m.sets.items s some).original h 0 → ⊥ =
      number_apart (set_size g s) (perm_in p s) (λ x. owns o s x r) (λ x. imports_execute g o s x r) (λ x. imports_nonexecute g o s x r)
      (get_or m.sets.items s some).original (perms.numbers s l) set.inverse in
      let bj : j < length (get_or m.sets.items s some).original = subst (λ (z : List ℕ). j < length z) at lj in
      let bk : k < length (get_or m.sets.items s some).original = subst (λ (z : List ℕ). k < length z) at lk in
      let f : get_or (get_or m.sets.items s some).original j 0 ≡ get_or (get_or m.sets.items s some).original k 0 = subst (λ (z : List ℕ). get_or z j 0 ≡ get_or z k 0) at e in
      ⊎_elim
      (λ (a : j < k). absurd (apart j k a bk f))
      (λ (a : k ≤ j). ⊎_elim
      (λ (b : k < j). absurd (apart k j b bj (sym f)))
      (λ (b : j ≤ k). omega arith)
      (cases_lt k j))
      (cases_lt j k)

  -- a core element is marked
  pub core_marked : (k : ℕ) → k < length (originals_in m.sets.items s)
      → get_or (core_in m.sets.items s) k false ≡
      (owns o s (get_or (originals_in m.sets.items s) k 0) r && is_core g o s (get_or (originals_in m.sets.items s) k 0))
  core_marked k lk =
      let b : k < length (get_or m.sets.items s some).original = subst (λ (z : List ℕ). k < length z) at lk in
      let x : ℕ = get_or (originals_in m.sets.items s) k 0 in
      let n : ℕ = (get_or m.sets.items s some).own in
      let e : own_in m.sets.items s ≡ n = own_at m.sets.items s some has in
      let first = owned_first k lk in
      let same : owns o s x r ≡ nat_lt k n = ltb_from_iff (λ t. subst (λ z. k < z) e (first.1 t), λ q. first.0 (subst (λ z. k < z) (sym e) q)) in
      ap (λ (z : List Bool). get_or z k false) (core_at m.sets.items s some has)
      ∙ (set.core k b
      ∙ (ap (λ z. z && is_core g o s (get_or (get_or m.sets.items s some).original k 0)) (sym same)
      ∙ ap (λ (z : List ℕ). owns o s x r && is_core g o s (get_or z k 0)) (sym at)))
