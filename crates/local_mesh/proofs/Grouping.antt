-- The groups of a set, from owners, halos and new numbers.
use Rattle.std.proofs.Common.{◌≡◌, ◌<◌, ◌||◌, ◌∙◌, ℕ, Bool, List, Vec, length, get_or, nat_eq, sym, ap, subst}
use Rattle.std.specs.Prelude.{Option, Some, None, IfSome, IfNone}
use Rattle.std.specs.declared.alloc.Global.{Global}
use Rattle.mesh_decl.specs.declared.owners.Owners.{Owners}
use Rattle.mesh_decl.specs.declared.owners.Perms.{Perms}
use Rattle.mesh_decl.specs.Mesh.{MeshValue, set_count, set_size}
use Rattle.mesh_decl.specs.Owners.{AreOwners, IsNumbering, owners_in, owner_of, perm_in}
use Rattle.lemmas.specs.Below.{listed, row}
use Rattle.lemmas.proofs.Below.{at_listed, length_listed, listed_agree}
use Rattle.local_mesh.specs.declared.halo_lists.types.SetHalo.{SetHalo}
use Rattle.local_mesh.specs.Halo.{owns, imports_execute, imports_nonexecute, has_copy}
use Rattle.local_mesh.specs.Halos.{IsSetHalo}
use Rattle.local_mesh.specs.declared.types.Groups.{Groups}
use Rattle.local_mesh.specs.Local.{ordered}
use Rattle.local_mesh.specs.Standing.{stands}
use Rattle.local_mesh.specs.Parts.{by_new, IsKept, AreCopies, AreGroups}
use Rattle.local_mesh.proofs.Inverse.{ordered_agree}
use Rattle.local_mesh.proofs.KeptOrder.{ordered_kept}
use Rattle.local_mesh.proofs.Stands.{stands_listed}

-- what is listed is below the bound
pub listed_within : (n size : ℕ) (p : ℕ → Bool) (xs : List ℕ) → xs ≡ listed n p → n ≡ size → (k : ℕ) → k < length xs → get_or xs k 0 < size
listed_within n size p xs e q k l = subst (λ z. get_or xs k 0 < z) q (subst (λ (z : List ℕ). k < length z → get_or z k 0 < n) (sym e) (λ lk. (at_listed n k 0 p (rw (← length_listed n p) lk)).0) l)

module _ (g : MeshValue) (o : Owners) (p : Perms) (s : ℕ) (owners order : List ℕ) (exec nonexec : List (Vec ℕ Global)) (h : SetHalo)
    (own : AreOwners g o) (ls : s < set_count g) (halo : IsSetHalo g o s h) (perms : IsNumbering (set_size g s) (perm_in p s))
    (eo : owners ≡ owners_in o s) (ep : order ≡ perm_in p s) (ee : exec ≡ h.exec.items) (en : nonexec ≡ h.nonexec.items) where
  owns_is : (x r : ℕ) → nat_eq (get_or owners x 0) r ≡ owns o s x r
  unfolding owns owner_of
  owns_is x r = ap (λ (z : List ℕ). nat_eq (get_or z x 0) r) eo

  size_is : length owners ≡ set_size g s
  size_is = ap (length {A = ℕ}) eo ∙ own.lengths s ls

  exec_is : (x r : ℕ) → x < set_size g s → r < o.ranks → stands (row exec r) x ≡ imports_execute g o s x r
  exec_is x r lx lr = stands_listed (set_size g s) (λ x. imports_execute g o s x r) (row exec r) x (ap (λ (z : List (Vec ℕ Global)). row z r) ee ∙ halo.exec r lr) lx

  nonexec_is : (x r : ℕ) → x < set_size g s → r < o.ranks → stands (row nonexec r) x ≡ imports_nonexecute g o s x r
  nonexec_is x r lx lr = stands_listed (set_size g s) (λ x. imports_nonexecute g o s x r) (row nonexec r) x (ap (λ (z : List (Vec ℕ Global)). row z r) en ∙ halo.nonexec r lr) lx

  by_order : (q : ℕ → Bool) → ordered (length order) (λ j. get_or order j 0) q ≡ ordered (set_size g s) (by_new p s) q
  by_order q = ap (λ (z : List ℕ). ordered (length z) (λ j. get_or z j 0) q) ep ∙ ap (λ z. ordered z (by_new p s) q) perms.length

  own_row : (r : ℕ) (xs : List ℕ) → xs ≡ ordered (length order) (λ j. get_or order j 0) (λ x. nat_eq (get_or owners x 0) r) → xs ≡ ordered (set_size g s) (by_new p s) (λ x. owns o s x r)
  own_row r xs e = e ∙ (by_order (λ x. nat_eq (get_or owners x 0) r)
      ∙ ordered_agree (set_size g s) (by_new p s) (λ x. nat_eq (get_or owners x 0) r) (λ x. owns o s x r) (λ j l. owns_is (by_new p s j) r))

  exec_row : (r : ℕ) (xs : List ℕ) → r < o.ranks → xs ≡ ordered (length order) (λ j. get_or order j 0) (λ x. stands (row exec r) x)
      → xs ≡ ordered (set_size g s) (by_new p s) (λ x. imports_execute g o s x r)
  exec_row r xs lr e = e ∙ (by_order (λ x. stands (row exec r) x)
      ∙ ordered_agree (set_size g s) (by_new p s) (λ x. stands (row exec r) x) (λ x. imports_execute g o s x r)
      (λ j l. exec_is (by_new p s j) r (perms.within j l) lr))

  nonexec_row : (r : ℕ) (xs : List ℕ) → r < o.ranks → xs ≡ ordered (length order) (λ j. get_or order j 0) (λ x. stands (row nonexec r) x)
      → xs ≡ ordered (set_size g s) (by_new p s) (λ x. imports_nonexecute g o s x r)
  nonexec_row r xs lr e = e ∙ (by_order (λ x. stands (row nonexec r) x)
      ∙ ordered_agree (set_size g s) (by_new p s) (λ x. stands (row nonexec r) x) (λ x. imports_nonexecute g o s x r)
      (λ j l. nonexec_is (by_new p s j) r (perms.within j l) lr))

  copies_row : (r : ℕ) (xs : List ℕ) → r < o.ranks → xs ≡ listed (length owners)
      (λ x. nat_eq (get_or owners x 0) r || (stands (row exec r) x || stands (row nonexec r) x))
      → xs ≡ listed (set_size g s) (λ x. has_copy g o s x r)
  copies_row r xs lr e = e ∙ (ap (λ z. listed z (λ x. nat_eq (get_or owners x 0) r || (stands (row exec r) x || stands (row nonexec r) x))) size_is
      ∙ listed_agree (set_size g s) (λ x. nat_eq (get_or owners x 0) r || (stands (row exec r) x || stands (row nonexec r) x)) (λ x. has_copy g o s x r)
      (λ x l. ap (λ z. z || (stands (row exec r) x || stands (row nonexec r) x)) (owns_is x r)
      ∙ (ap (λ z. owns o s x r || (z || stands (row nonexec r) x)) (exec_is x r l lr)
      ∙ ap (λ z. owns o s x r || (imports_execute g o s x r || z)) (nonexec_is x r l lr))))

  -- groups by new number, and all copies by original number
  pub groups_are : (t : Groups) (c : Vec (Vec ℕ Global) Global) → length t.own.items ≡ o.ranks
      → ((r : ℕ) → r < o.ranks → row t.own.items r ≡ ordered (length order) (λ j. get_or order j 0) (λ x. nat_eq (get_or owners x 0) r))
      → length t.exec.items ≡ o.ranks →
      ((r : ℕ) → r < o.ranks → row t.exec.items r ≡ ordered (length order) (λ j. get_or order j 0) (λ x. stands (row exec r) x))
      → length t.nonexec.items ≡ o.ranks →
      ((r : ℕ) → r < o.ranks → row t.nonexec.items r ≡ ordered (length order) (λ j. get_or order j 0) (λ x. stands (row nonexec r) x))
      → t.copies ≡ Some c → length c.items ≡ o.ranks →
      ((r : ℕ) → r < o.ranks → row c.items r ≡ listed (length owners)
      (λ x. nat_eq (get_or owners x 0) r || (stands (row exec r) x || stands (row nonexec r) x))) → AreGroups g o p s t
  groups_are t c a b d e f i q j k =
      let copies : AreCopies g o s c.items = record { count = j; each = λ r l. copies_row r (row c.items r) l (k r l) } in
      record {
        own_count = a;
        own = λ r l. own_row r (row t.own.items r) (b r l);
        exec_count = d;
        exec = λ r l. exec_row r (row t.exec.items r) l (e r l);
        nonexec_count = f;
        nonexec = λ r l. nonexec_row r (row t.nonexec.items r) l (i r l);
        copies = subst (λ (z : Option (Vec (Vec ℕ Global) Global)). IfSome z (λ v. AreCopies g o s v.items)) (sym q) copies;
        kept = subst (λ (z : Option (Vec (Vec ℕ Global) Global)). IfNone z (IsKept (set_size g s) (by_new p s))) (sym q) tt;
      }

  -- groups of elements that keep their numbers
  pub kept_are : (t : Groups) → IsKept (length order) (λ j. get_or order j 0) → length t.own.items ≡ o.ranks
      → ((r : ℕ) → r < o.ranks → row t.own.items r ≡ ordered (length order) (λ j. get_or order j 0) (λ x. nat_eq (get_or owners x 0) r))
      → length t.exec.items ≡ length exec → ((r : ℕ) → r < length exec → row t.exec.items r ≡ row exec r)
      → length t.nonexec.items ≡ length nonexec → ((r : ℕ) → r < length nonexec → row t.nonexec.items r ≡ row nonexec r) → t.copies ≡ None
      → AreGroups g o p s t
  kept_are t kept a b d e f i q =
      let n = ap (length {A = Vec ℕ Global}) ee ∙ halo.exec_count in
      let m = ap (length {A = Vec ℕ Global}) en ∙ halo.nonexec_count in
      let k : IsKept (set_size g s) (by_new p s) = subst (λ (z : List ℕ). (j : ℕ) → j < set_size g s → get_or z j 0 ≡ j) ep (λ j l. kept j (rw (ap (length {A = ℕ}) ep ∙ perms.length) l)) in
      record {
        own_count = a;
        own = λ r l. own_row r (row t.own.items r) (b r l);
        exec_count = d ∙ n;
        exec = λ r l. e r (rw n l) ∙ (ap (λ (z : List (Vec ℕ Global)). row z r) ee ∙ (halo.exec r l ∙ sym (ordered_kept (set_size g s) (by_new p s) (λ x. imports_execute g o s x r) k)));
        nonexec_count = f ∙ m;
        nonexec = λ r l. i r (rw m l) ∙ (ap (λ (z : List (Vec ℕ Global)). row z r) en ∙ (halo.nonexec r l ∙ sym (ordered_kept (set_size g s) (by_new p s) (λ x. imports_nonexecute g o s x r) k)));
        copies = subst (λ (z : Option (Vec (Vec ℕ Global) Global)). IfSome z (λ v. AreCopies g o s v.items)) (sym q) tt;
        kept = subst (λ (z : Option (Vec (Vec ℕ Global) Global)). IfNone z (IsKept (set_size g s) (by_new p s))) (sym q) k;
      }
