-- Messages go where something is exported.
use Rattle.std.proofs.Common.{◌≡◌, ◌<◌, ◌≤◌, ◌+◌, ◌^◌, ◌↔◌, ℕ, Bool, true, false, sym, ap, subst, ◌∙◌, arith, ⊎_elim, List, [], length, get_or, take, drop, map}
use Rattle.std.specs.Prelude.{◌||◌, nat_eq}
use Rattle.std.specs.List.{list_any}
use Rattle.std.proofs.lemmas.Bool.{cases_Bool, false≢true}
use Rattle.std.proofs.lemmas.List.{get_or-map}
use Rattle.mesh_decl.specs.declared.owners.Owners.{Owners}
use Rattle.mesh_decl.specs.declared.owners.Perms.{Perms}
use Rattle.mesh_decl.specs.Owners.{ArePerms, perm_in}
use Rattle.mesh_decl.specs.Mesh.{MeshValue, set_count, set_size}
use Rattle.local_mesh.specs.Halo.{owns, imports, imports_execute, imports_nonexecute}
use Rattle.local_mesh.specs.declared.types.LocalSet.{LocalSet}
use Rattle.local_mesh.specs.declared.types.RankMesh.{RankMesh}
use Rattle.local_mesh.specs.Local.{earlier, AreApart}
use Rattle.local_mesh.specs.Parts.{by_new}
use Rattle.local_mesh.specs.LocalMesh.{IsLocalSet, IsRankMesh, AreRankMeshes, originals_in, executed_in}
use Rattle.local_mesh.proofs.Public.{groups_apart, number_few}
use Rattle.loop_plan.specs.Pairs.{sets_of, own_in, owned, imported, imports_from}
use Rattle.loop_plan.proofs.Imports.{owned_is_own, own_is_owned, imported_is_import, imported_below, import_is_imported}
use Rattle.lemmas.proofs.Lists.{any_at, element_at}

module _ (g : MeshValue) (o : Owners) (p : Perms) (meshes : List RankMesh) where
  -- one set of one rank
  record IsLocal (r t : ℕ) : Type 0 where
    set : LocalSet
    is : IsLocalSet g o p t r set
    originals : originals_in (sets_of meshes r) t ≡ set.original
    own : own_in (sets_of meshes r) t ≡ set.own
    executed : executed_in (sets_of meshes r) t ≡ set.own + set.exec

  module _ (perms : ArePerms g p) (h : AreRankMeshes g o p meshes) where
    local : (r t : ℕ) → r < o.ranks → t < set_count g → IsLocal r t
    unfolding sets_of own_in executed_in originals_in
    local r t lr lt =
        let lm : r < length meshes = (let e : length meshes ≡ o.ranks = h.count in omega arith) in
        let m : (x : RankMesh) × ((d : RankMesh) → get_or meshes r d ≡ x) = element_at meshes r lm in
        let mesh : IsRankMesh g o p r m.0 = subst (IsRankMesh g o p r) (m.1 m.0) (h.ranks r m.0 lr) in
        let ls : t < length m.0.sets.items = (let e : length m.0.sets.items ≡ set_count g = mesh.sets_count in omega arith) in
        let s : (x : LocalSet) × ((d : LocalSet) → get_or m.0.sets.items t d ≡ x) = element_at m.0.sets.items t ls in
        let e : get_or (map (λ (x : RankMesh). x.sets.items) meshes) r [] ≡ m.0.sets.items =
        get_or-map (λ (x : RankMesh). x.sets.items) meshes r m.0 [] lm ∙ ap (λ (x : RankMesh). x.sets.items) (m.1 m.0) in
        record {
          set = s.0;
          is = subst (IsLocalSet g o p t r) (s.1 s.0) (mesh.sets t s.0 lt);
          originals = ap (λ (z : List LocalSet). get_or (map (λ (x : LocalSet). x.original) z) t []) e
              ∙ (get_or-map (λ (x : LocalSet). x.original) m.0.sets.items t s.0 [] ls ∙ ap (λ (x : LocalSet). x.original) (s.1 s.0));
          own = ap (λ (z : List LocalSet). get_or (map (λ (x : LocalSet). x.own) z) t 0) e
              ∙ (get_or-map (λ (x : LocalSet). x.own) m.0.sets.items t s.0 0 ls ∙ ap (λ (x : LocalSet). x.own) (s.1 s.0));
          executed = ap (λ (z : List LocalSet). get_or (map (λ (x : LocalSet). x.own + x.exec) z) t 0) e
              ∙ (get_or-map (λ (x : LocalSet). x.own + x.exec) m.0.sets.items t s.0 0 ls ∙ ap (λ (x : LocalSet). x.own + x.exec) (s.1 s.0));
        }

    abbrev own_count : ℕ → ℕ → ℕ
    own_count r t = earlier (by_new p t) (λ x. owns o t x r) (set_size g t)

    owned_are : (r t : ℕ) (l : IsLocal r t) → owned (sets_of meshes r) t ≡ take (own_count r t) l.set.original
    owned_are r t l = ap (λ z. take z (originals_in (sets_of meshes r) t)) (l.own ∙ l.is.own) ∙ ap (take (own_count r t)) l.originals

    imported_are : (r t : ℕ) (l : IsLocal r t) → imported (sets_of meshes r) t ≡ drop (own_count r t) l.set.original
    imported_are r t l = ap (λ z. drop z (originals_in (sets_of meshes r) t)) (l.own ∙ l.is.own) ∙ ap (drop (own_count r t)) l.originals

    -- a rank executes no more elements of a set than there are
    pub executed_few : (r t : ℕ) → r < o.ranks → t < set_count g → set_size g t < 2 ^ 32 → executed_in (sets_of meshes r) t < 2 ^ 32
    executed_few r t lr lt few =
        let l : IsLocal r t = local r t lr lt in
        let n : length l.set.original ≤ set_size g t =
        number_few (set_size g t) (perm_in p t) (λ x. owns o t x r) (λ x. imports_execute g o t x r) (λ x. imports_nonexecute g o t x r)
        l.set.original (perms.numbers t lt) l.is.inverse (groups_apart g o t r) in
        omega (arith, l.executed, l.is.own, l.is.exec, l.is.inverse.count)

    -- it has copies of them
    pub executed_held : (r t : ℕ) → r < o.ranks → t < set_count g → executed_in (sets_of meshes r) t ≤ length (originals_in (sets_of meshes r) t)
    executed_held r t lr lt =
        let l : IsLocal r t = local r t lr lt in
        let n : length (originals_in (sets_of meshes r) t) ≡ length l.set.original = ap (λ (z : List ℕ). length z) l.originals in
        omega (arith, l.executed, l.is.own, l.is.exec, l.is.inverse.count)

    -- each rank has each set
    pub sets_counted : (r : ℕ) → r < o.ranks → length (sets_of meshes r) ≡ set_count g
    unfolding sets_of
    sets_counted r lr =
        let lm : r < length meshes = (let e : length meshes ≡ o.ranks = h.count in omega arith) in
        let m : (x : RankMesh) × ((d : RankMesh) → get_or meshes r d ≡ x) = element_at meshes r lm in
        let mesh : IsRankMesh g o p r m.0 = subst (IsRankMesh g o p r) (m.1 m.0) (h.ranks r m.0 lr) in
        let e : get_or (map (λ (x : RankMesh). x.sets.items) meshes) r [] ≡ m.0.sets.items =
        get_or-map (λ (x : RankMesh). x.sets.items) meshes r m.0 [] lm ∙ ap (λ (x : RankMesh). x.sets.items) (m.1 m.0) in
        ap (λ (z : List LocalSet). length z) e ∙ mesh.sets_count

    -- what is imported is not owned
    not_own : (t x r : ℕ) → (imports_execute g o t x r || imports_nonexecute g o t x r) ≡ true → owns o t x r ≡ false
    not_own t x r i =
        let a : AreApart (λ y. owns o t y r) (λ y. imports_execute g o t y r) (λ y. imports_nonexecute g o t y r) = groups_apart g o t r in
        ⊎_elim
        (λ (e : owns o t x r ≡ true). absurd (false≢true (sym (ap (λ z. z || imports_nonexecute g o t x r) (a.own_exec x e) ∙ a.own_nonexec x e) ∙ i)))
        (λ (e : owns o t x r ≡ false). e)
        (cases_Bool (owns o t x r))

    module _ (s r t : ℕ) (ls : s < o.ranks) (lr : r < o.ranks) (lt : t < set_count g) where
      abbrev is_sent : ℕ → Bool
      is_sent x = list_any (nat_eq x) (owned (sets_of meshes s) t)

      exported : imports_from (sets_of meshes s) (sets_of meshes r) t ≡ true → (x : ℕ) × (x < set_size g t) × (imports g o t x r ≡ true) × (owns o t x s ≡ true)
      unfolding imports_from imports
      exported i =
          let l : IsLocal r t = local r t lr lt in
          let m : IsLocal s t = local s t ls lt in
          let w : (k : ℕ) × (k < length (drop (own_count r t) l.set.original)) × (is_sent (get_or (drop (own_count r t) l.set.original) k 0) ≡ true) =
          any_at is_sent (drop (own_count r t) l.set.original) (sym (ap (list_any is_sent) (imported_are r t l)) ∙ i) in
          let x : ℕ = get_or (drop (own_count r t) l.set.original) w.0 0 in (
            x,
            imported_below (set_size g t) (perm_in p t) (λ y. owns o t y r) (λ y. imports_execute g o t y r)
                (λ y. imports_nonexecute g o t y r) l.set.original (perms.numbers t lt) l.is.inverse w.0 w.1,
            imported_is_import (set_size g t) (perm_in p t) (λ y. owns o t y r) (λ y. imports_execute g o t y r)
                (λ y. imports_nonexecute g o t y r) l.set.original (perms.numbers t lt) l.is.inverse w.0 w.1,
            owned_is_own (set_size g t) (perm_in p t) (λ y. owns o t y s) (λ y. imports_execute g o t y s) (λ y. imports_nonexecute g o t y s) m.set.original (perms.numbers t lt) m.is.inverse x
                (sym (ap (list_any (nat_eq x)) (owned_are s t m)) ∙ w.2),
          )

      sent : (x : ℕ) × (x < set_size g t) × (imports g o t x r ≡ true) × (owns o t x s ≡ true) → imports_from (sets_of meshes s) (sets_of meshes r) t ≡ true
      unfolding imports_from imports
      sent w =
          let l : IsLocal r t = local r t lr lt in
          let m : IsLocal s t = local s t ls lt in
          let is : is_sent w.0 ≡ true = ap (list_any (nat_eq w.0)) (owned_are s t m)
          ∙ own_is_owned (set_size g t) (perm_in p t) (λ y. owns o t y s) (λ y. imports_execute g o t y s)
          (λ y. imports_nonexecute g o t y s) m.set.original (perms.numbers t lt) m.is.inverse w.0 w.1 w.3 in
          ap (list_any is_sent) (imported_are r t l)
          ∙ import_is_imported (set_size g t) (perm_in p t) (λ y. owns o t y r) (λ y. imports_execute g o t y r)
          (λ y. imports_nonexecute g o t y r) l.set.original (perms.numbers t lt) l.is.inverse w.0 is_sent w.1 (not_own t w.0 r w.2) w.2
          is

      pub messages : (imports_from (sets_of meshes s) (sets_of meshes r) t ≡ true) ↔ ((x : ℕ) × (x < set_size g t) × (imports g o t x r ≡ true) × (owns o t x s ≡ true))
      messages = (exported, sent)
