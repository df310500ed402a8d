-- What follows where originals and local numbers are inverse.
use Rattle.std.proofs.Common.{◌≡◌, ◌≢◌, ℕ, ◌+◌, ◌<◌, ◌≤◌, Bool, true, false, not, ◌&&◌, ◌||◌, List, length, get_or, sym, ap, ◌∙◌, arith, subst}
use Rattle.std.specs.List.{Contains}
use Rattle.mesh_decl.specs.Owners.{IsNumbering}
use Rattle.mesh_decl.specs.Mesh.{MeshValue}
use Rattle.mesh_decl.specs.declared.owners.Owners.{Owners}
use Rattle.local_mesh.specs.Halo.{owns, reaches, imports_execute, imports_nonexecute, executes, named}
use Rattle.local_mesh.specs.Local.{earlier, local_number, AreApart, AreInverse}
use Rattle.local_mesh.proofs.Inverse.{apart_sum, number_executed}
use Rattle.local_mesh.proofs.Stands.{contains_at}
use Rattle.lemmas.proofs.Lists.{contains_at as at_contained}
use Rattle.std.proofs.Math.Bool.{and-false}

-- owned, import execute and import non-execute have no element in common
pub groups_apart : (g : MeshValue) (o : Owners) (s r : ℕ) → AreApart (λ x. owns o s x r) (λ x. imports_execute g o s x r) (λ x. imports_nonexecute g o s x r)
unfolding imports_execute imports_nonexecute executes
groups_apart g o s r = record {
  own_exec = λ x t. ap (λ w. not w && reaches g o s x r) t;
  own_nonexec = λ x t. ap (λ w. named g o s x r && not (w || (not w && reaches g o s x r))) t ∙ and-false (named g o s x r);
  exec_nonexec = λ x t. either (named g o s x r) (owns o s x r) (not (owns o s x r) && reaches g o s x r) t;
}
  where
    either : (n w h : Bool) → h ≡ true → (n && not (w || h)) ≡ false
    either n true h t = and-false n
    either n false h t = ap (λ z. n && not z) t ∙ and-false n

module _ (n : ℕ) (perm : List ℕ) (p q r : ℕ → Bool) (original : List ℕ) (perms : IsNumbering n perm) (inv : AreInverse n (λ j. get_or perm j 0) p q r original) where
  pub number_few : AreApart p q r → length original ≤ n
  number_few a = let s = apart_sum n (λ j. get_or perm j 0) p q r a in omega (arith, inv.count)

  pub number_below : (k : ℕ) → k < length original → get_or original k 0 < n
  number_below k l = let a = inv.numbered k l in rw a.3 (perms.within a.0 a.1)

  pub number_copied : (k : ℕ) → k < length original → (p (get_or original k 0) || (q (get_or original k 0) || r (get_or original k 0))) ≡ true
  number_copied k l = let a = inv.numbered k l in rw a.3 a.2

  pub number_apart : (j k : ℕ) → j < k → k < length original → get_or original j 0 ≢ get_or original k 0
  number_apart j k l lk e =
      let a = inv.numbered j (omega arith) in
      let b = inv.numbered k lk in
      let m : a.0 ≡ b.0 = perms.distinct a.0 b.0 a.1 b.1 (sym a.3 ∙ (e ∙ b.3)) in
      let s : j ≡ k = sym a.4 ∙ (ap (local_number n (λ j. get_or perm j 0) p q r) m ∙ b.4) in
      omega arith

  pub number_contains : (x : ℕ) → x < n → (p x || (q x || r x)) ≡ true → Contains original x
  number_contains x l t =
      let w = perms.every x l in
      let order : ℕ → ℕ = λ j. get_or perm j 0 in
      let h : (p (order w.0) || (q (order w.0) || r (order w.0))) ≡ true = subst (λ z. (p z || (q z || r z)) ≡ true) (sym w.2) t in
      contains_at original (local_number n order p q r w.0) x (inv.within w.0 w.1 h) (inv.at_number w.0 w.1 h ∙ w.2)

  pub number_is_copy : (x : ℕ) → Contains original x → (x < n) × ((p x || (q x || r x)) ≡ true)
  number_is_copy x c = let e = at_contained original x c in (subst (λ z. z < n) e (number_below c.0 c.1), subst (λ z. (p z || (q z || r z)) ≡ true) e (number_copied c.0 c.1))

  pub copy_executed : (k : ℕ) → k < earlier (λ j. get_or perm j 0) p n + earlier (λ j. get_or perm j 0) q n → k < length original → (p (get_or original k 0) || q (get_or original k 0)) ≡ true
  copy_executed k l lk =
      let a = inv.numbered k lk in
      subst (λ z. (p z || q z) ≡ true) (sym a.3) (number_executed n (λ j. get_or perm j 0) p q r a.0 (rw a.4 l))
