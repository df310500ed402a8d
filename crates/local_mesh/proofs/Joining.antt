-- From the groups of a set to the set of a rank.
use Rattle.std.proofs.Common.{◌≡◌, ℕ, ◌^◌, ◌<◌, ◌≤◌, Bool, false, ◌&&◌, ltb, List, ◌++◌, Vec, length, get_or, sym, ap, ◌∙◌, arith, subst}
use Rattle.std.specs.List.{Contains}
use Rattle.std.specs.Prelude.{Option, Some, None, IfSome, IfNone}
use Rattle.std.specs.declared.alloc.Global.{Global}
use Rattle.mesh_decl.specs.declared.owners.Owners.{Owners}
use Rattle.mesh_decl.specs.declared.owners.Perms.{Perms}
use Rattle.mesh_decl.specs.Mesh.{MeshValue, set_size}
use Rattle.mesh_decl.specs.Owners.{IsNumbering, perm_in}
use Rattle.lemmas.specs.Below.{listed, row}
use Rattle.lemmas.proofs.Below.{at_listed, length_listed}
use Rattle.local_mesh.specs.declared.halo_lists.types.SetHalo.{SetHalo}
use Rattle.local_mesh.specs.Halo.{owns, imports_execute, imports_nonexecute, has_copy}
use Rattle.local_mesh.specs.Halos.{IsSetHalo}
use Rattle.local_mesh.specs.declared.types.Groups.{Groups}
use Rattle.local_mesh.specs.declared.types.LocalSet.{LocalSet}
use Rattle.local_mesh.specs.Local.{ordered, AreInverse}
use Rattle.local_mesh.specs.Lookup.{Rises}
use Rattle.local_mesh.specs.Parts.{by_new, numbers_of, IsKept, AreCopies, AreGroups, AreParts, AreSorted, IsReady, IsJoined, IsJoinedFrom}
use Rattle.local_mesh.specs.LocalMesh.{IsLocalSet}
use Rattle.local_mesh.proofs.Inverse.{inverse, length-ordered}
use Rattle.local_mesh.proofs.KeptOrder.{ordered_rises}
use Rattle.local_mesh.proofs.Stands.{listed_rises, listed_contains}
use Rattle.local_mesh.proofs.Numbered.{groups_apart, number_few, number_below, number_copied, number_apart, number_contains}

joined : (a b c x y z : List ℕ) → a ≡ x → b ≡ y → c ≡ z → a ++ b ++ c ≡ x ++ y ++ z
joined a b c x y z e f g = ap (λ (w : List ℕ). w ++ b ++ c) e ∙ (ap (λ (w : List ℕ). x ++ w ++ c) f ∙ ap (λ (w : List ℕ). x ++ y ++ w) g)

module _ (g : MeshValue) (o : Owners) (p : Perms) (s r : ℕ) (a b c : List ℕ)
    (own : a ≡ ordered (set_size g s) (by_new p s) (λ x. owns o s x r))
    (exec : b ≡ ordered (set_size g s) (by_new p s) (λ x. imports_execute g o s x r))
    (nonexec : c ≡ ordered (set_size g s) (by_new p s) (λ x. imports_nonexecute g o s x r)) where
  -- what rank r has of set s, in order of local numbers
  numbers_inverse : AreInverse (set_size g s) (by_new p s) (λ x. owns o s x r) (λ x. imports_execute g o s x r) (λ x. imports_nonexecute g o s x r) (a ++ b ++ c)
  numbers_inverse = inverse (set_size g s) (by_new p s) (λ x. owns o s x r) (λ x. imports_execute g o s x r) (λ x. imports_nonexecute g o s x r) (a ++ b ++ c) (groups_apart g o s r)
      (joined a b c (ordered (set_size g s) (by_new p s) (λ x. owns o s x r))
      (ordered (set_size g s) (by_new p s) (λ x. imports_execute g o s x r))
      (ordered (set_size g s) (by_new p s) (λ x. imports_nonexecute g o s x r)) own exec nonexec)

  module _ (perms : IsNumbering (set_size g s) (perm_in p s)) where
    are_parts : set_size g s < 2 ^ 32 → AreParts (set_size g s) (a ++ b ++ c)
    are_parts small =
        let n : ℕ = set_size g s in
        let w : ℕ → Bool = λ x. owns o s x r in
        let e : ℕ → Bool = λ x. imports_execute g o s x r in
        let v : ℕ → Bool = λ x. imports_nonexecute g o s x r in
        let perm = perm_in p s in
        let inv = numbers_inverse in
        let few : length (a ++ b ++ c) ≤ n = number_few n perm w e v (a ++ b ++ c) perms inv (groups_apart g o s r) in
        record {
          few = omega arith;
          within = number_below n perm w e v (a ++ b ++ c) perms inv;
          apart = number_apart n perm w e v (a ++ b ++ c) perms inv;
        }

    are_sorted : (copies : List ℕ) → copies ≡ listed (set_size g s) (λ x. has_copy g o s x r) → AreSorted (a ++ b ++ c) copies
    are_sorted copies is =
        let n : ℕ = set_size g s in
        let w : ℕ → Bool = λ x. owns o s x r in
        let e : ℕ → Bool = λ x. imports_execute g o s x r in
        let v : ℕ → Bool = λ x. imports_nonexecute g o s x r in
        let h : ℕ → Bool = λ x. has_copy g o s x r in
        let perm = perm_in p s in
        let numbers = a ++ b ++ c in
        let inv = numbers_inverse in
        record {
          rising = λ i j le l. subst (λ (z : List ℕ). j < length z → get_or z i 0 ≤ get_or z j 0) (sym is) (listed_rises n h i j le) l;
          all = λ k l. subst (λ (z : List ℕ). Contains z (get_or numbers k 0)) (sym is)
              (listed_contains n h (get_or numbers k 0) (number_below n perm w e v numbers perms inv k l)
              (number_copied n perm w e v numbers perms inv k l));
          found = λ k l. subst (λ (z : List ℕ). k < length z → Contains numbers (get_or z k 0)) (sym is)
              (λ lk. (let m = at_listed n k 0 h (rw (← length_listed n h) lk) in
              number_contains n perm w e v numbers perms inv (get_or (listed n h) k 0) m.0 m.1)) l;
        }

    -- where elements keep their numbers, each group rises
    are_rising : IsKept (set_size g s) (by_new p s) → Rises a × Rises b × Rises c
    are_rising kept = (
      ordered_rises (set_size g s) (by_new p s) (λ x. owns o s x r) a kept own,
      ordered_rises (set_size g s) (by_new p s) (λ x. imports_execute g o s x r) b kept exec,
      ordered_rises (set_size g s) (by_new p s) (λ x. imports_nonexecute g o s x r) c kept nonexec,
    )

    pub local_set_is : (h : SetHalo) (l : LocalSet) → IsSetHalo g o s h → IsJoined a b c h.core.items l → IsLocalSet g o p s r l
    local_set_is h l halo j =
        let n : ℕ = set_size g s in
        let inv = subst (λ (z : List ℕ). AreInverse (set_size g s) (by_new p s) (λ x. owns o s x r) (λ x. imports_execute g o s x r)
        (λ x. imports_nonexecute g o s x r) z) (sym j.original) numbers_inverse in
        record {
          own = j.own ∙ (ap (length {A = ℕ}) own ∙ length-ordered n (by_new p s) (λ x. owns o s x r));
          exec = j.exec ∙ (ap (length {A = ℕ}) exec ∙ length-ordered n (by_new p s) (λ x. imports_execute g o s x r));
          nonexec = j.nonexec ∙ (ap (length {A = ℕ}) nonexec ∙ length-ordered n (by_new p s) (λ x. imports_nonexecute g o s x r));
          inverse = inv;
          core_count = j.core_count;
          core = λ k lk. j.core k lk ∙ (ap (λ z. ltb k z && get_or h.core.items (get_or l.original k 0) false) (sym j.own)
              ∙ ap (λ z. ltb k l.own && z) (halo.core (get_or l.original k 0)
              (number_below n (perm_in p s) (λ x. owns o s x r) (λ x. imports_execute g o s x r) (λ x. imports_nonexecute g o s x r)
              l.original perms inv k lk)));
        }

-- what a rank has of a set is ready to be joined
pub ready : (g : MeshValue) (o : Owners) (p : Perms) (s r : ℕ) (t : Groups) → AreGroups g o p s t → r < o.ranks
    → IsNumbering (set_size g s) (perm_in p s) → set_size g s < 2 ^ 32 → (h : SetHalo) (room : ℕ) → IsSetHalo g o s h → set_size g s ≤ room
    → IsReady r room t h
ready g o p s r t groups lr perms small h room halo le =
    let a = row t.own.items r in
    let b = row t.exec.items r in
    let c = row t.nonexec.items r in
    let ea = groups.own r lr in
    let eb = groups.exec r lr in
    let ec = groups.nonexec r lr in
    record {
      own = rw groups.own_count lr;
      exec = rw groups.exec_count lr;
      nonexec = rw groups.nonexec_count lr;
      parts = subst (λ z. AreParts z (numbers_of r t)) (sym halo.core_count) (are_parts g o p s r a b c ea eb ec perms small);
      copies = some_copies t.copies groups.copies;
      rising = none_rising t.copies groups.kept;
      fits = rw halo.core_count le;
    }
  where
    some_copies : (v : Option (Vec (Vec ℕ Global) Global)) → IfSome v (λ d. AreCopies g o s d.items) → IfSome v (λ d. (r < length d.items) × AreSorted (numbers_of r t) (row d.items r))
    some_copies (Some d) h = (
      rw h.count lr,
      are_sorted g o p s r (row t.own.items r) (row t.exec.items r) (row t.nonexec.items r)
          (groups.own r lr) (groups.exec r lr) (groups.nonexec r lr) perms (row d.items r) (h.each r lr),
    )
    some_copies None h = h

    none_rising : (v : Option (Vec (Vec ℕ Global) Global)) → IfNone v (IsKept (set_size g s) (by_new p s))
        → IfNone v (Rises (row t.own.items r) × Rises (row t.exec.items r) × Rises (row t.nonexec.items r))
    none_rising (Some d) h = h
    none_rising None h = are_rising g o p s r (row t.own.items r) (row t.exec.items r) (row t.nonexec.items r) (groups.own r lr) (groups.exec r lr) (groups.nonexec r lr) perms h

-- and what is joined is the rank's
pub set_joined : (g : MeshValue) (o : Owners) (p : Perms) (s r : ℕ) (t : Groups) → AreGroups g o p s t → r < o.ranks
    → IsNumbering (set_size g s) (perm_in p s) → (h : SetHalo) (l : LocalSet) → IsSetHalo g o s h → IsJoinedFrom r t h l
    → IsLocalSet g o p s r l
set_joined g o p s r t groups lr perms h l halo j =
    local_set_is g o p s r (row t.own.items r) (row t.exec.items r) (row t.nonexec.items r) (groups.own r lr) (groups.exec r lr)
    (groups.nonexec r lr) perms h l halo j
