-- What the local numbers of a rank say of the elements of the whole mesh.
use Rattle.std.proofs.Common.{◌≡◌, ℕ, ◌<◌, ◌≤◌, ◌+◌, true, false, List, [], length, get_or, sym, ap, subst, ◌∙◌, arith}
use Rattle.std.specs.Prelude.{◌&&◌, ◌↔◌, nat_lt, Contains}
use Rattle.std.proofs.lemmas.List.{get_or-map}
use Rattle.std.proofs.lemmas.Bool.{ltb_from_iff}
use Rattle.mesh_decl.specs.declared.owners.Owners.{Owners}
use Rattle.mesh_decl.specs.declared.owners.Perms.{Perms}
use Rattle.mesh_decl.specs.Mesh.{MeshValue, set_count, set_size}
use Rattle.local_mesh.specs.Halo.{owns, executes, has_copy, is_core}
use Rattle.local_mesh.specs.declared.types.LocalSet.{LocalSet}
use Rattle.local_mesh.specs.declared.types.RankMesh.{RankMesh}
use Rattle.local_mesh.specs.LocalMesh.{IsLocalSet, IsRankMesh, originals_in, executed_in}
use Rattle.loop_plan.specs.Pairs.{sets_of, own_in, core_in}
use Rattle.loop_plan.specs.Distributed.{IsDistributed}
use Rattle.bound_plan.specs.Places.{originals, original_at, local_at}
use Rattle.bound_plan.specs.Given.{NumberLaws}
use Rattle.bound_plan.proofs.Places.{one_of, at_place, place_of, first_stands, first_is}

module _ (laws : NumberLaws) (g : MeshValue) (o : Owners) (n : Perms) (meshes : List RankMesh) (d : IsDistributed g o n meshes) (r : ℕ) (lr : r < o.ranks) where
  pub rank_there : r < length meshes
  rank_there = subst (λ z. r < z) (sym d.are_meshes.count) lr

  abbrev pub mesh : RankMesh
  mesh = get_or meshes r (one_of meshes r rank_there)

  pub is_mesh : IsRankMesh g o n r mesh
  is_mesh = d.are_meshes.ranks r (one_of meshes r rank_there) lr

  pub sets_are : mesh.sets.items ≡ sets_of meshes r
  unfolding sets_of
  sets_are = sym (get_or-map (λ (x : RankMesh). x.sets.items) meshes r (one_of meshes r rank_there) [] rank_there)

  module _ (s : ℕ) (ls : s < set_count g) where
    pub set_there : s < length mesh.sets.items
    set_there = subst (λ z. s < z) (sym is_mesh.sets_count) ls

    abbrev set : LocalSet
    set = get_or mesh.sets.items s (one_of mesh.sets.items s set_there)

    is_set : IsLocalSet g o n s r set
    is_set = is_mesh.sets s (one_of mesh.sets.items s set_there) ls

    originals_are : set.original ≡ originals meshes r s
    unfolding originals_in
    originals_are =
        sym (get_or-map (λ (x : LocalSet). x.original) mesh.sets.items s (one_of mesh.sets.items s set_there) [] set_there)
        ∙ ap (λ z. originals_in z s) sets_are

    own_is : set.own ≡ own_in (sets_of meshes r) s
    unfolding own_in
    own_is =
        sym (get_or-map (λ (x : LocalSet). x.own) mesh.sets.items s (one_of mesh.sets.items s set_there) 0 set_there)
        ∙ ap (λ z. own_in z s) sets_are

    executed_is : set.own + set.exec ≡ executed_in (sets_of meshes r) s
    unfolding executed_in
    executed_is =
        sym (get_or-map (λ (x : LocalSet). x.own + x.exec) mesh.sets.items s (one_of mesh.sets.items s set_there) 0 set_there)
        ∙ ap (λ z. executed_in z s) sets_are

    pub few : executed_in (sets_of meshes r) s ≤ length (originals meshes r s)
    few =
        let c = is_set.inverse.count in
        let a : length set.original ≡ length (originals meshes r s) = ap length originals_are in
        omega (arith, is_set.own, is_set.exec, executed_is)

    pub own_few : own_in (sets_of meshes r) s ≤ executed_in (sets_of meshes r) s
    own_few = omega (arith, own_is, executed_is)

    cores_are : set.core.items ≡ core_in (sets_of meshes r) s
    unfolding core_in
    cores_are =
        sym (get_or-map (λ (x : LocalSet). x.core.items) mesh.sets.items s (one_of mesh.sets.items s set_there) [] set_there)
        ∙ ap (λ z. core_in z s) sets_are

    pub apart : (j k : ℕ) → j < length (originals meshes r s) → k < length (originals meshes r s) → original_at meshes r s j ≡ original_at meshes r s k → j ≡ k
    apart = subst
        (λ z. (j k : ℕ) → j < length (originals_in z s) → k < length (originals_in z s) → get_or (originals_in z s) j 0 ≡ get_or (originals_in z s) k 0 → j ≡ k)
        sets_are
        (λ j k. laws.distinct g o n r mesh d.are_perms is_mesh s j k ls)

    -- what the rank owns stands first
    pub owned : (k : ℕ) → k < length (originals meshes r s) → (k < own_in (sets_of meshes r) s) ↔ (owns o s (original_at meshes r s k) r ≡ true)
    unfolding own_in
    owned = subst
        (λ z. (k : ℕ) → k < length (originals_in z s) → (k < own_in z s) ↔ (owns o s (get_or (originals_in z s) k 0) r ≡ true))
        sets_are
        (λ k. laws.owned g o n r mesh is_mesh s k ls)

    -- and then what it imports to execute
    pub executed : (k : ℕ) → k < length (originals meshes r s) → (k < executed_in (sets_of meshes r) s) ↔ (executes g o s (original_at meshes r s k) r ≡ true)
    executed = subst
        (λ z. (k : ℕ) → k < length (originals_in z s) → (k < executed_in z s) ↔ (executes g o s (get_or (originals_in z s) k 0) r ≡ true))
        sets_are
        (λ k. laws.executed g o n r mesh is_mesh s k ls)

    copies : (x : ℕ) → Contains (originals meshes r s) x ↔ ((x < set_size g s) × (has_copy g o s x r ≡ true))
    copies x = subst (λ z. Contains z x ↔ ((x < set_size g s) × (has_copy g o s x r ≡ true))) originals_are (laws.copies g o n s r set (d.are_perms.numbers s ls) is_set x)

    -- an element of which the rank has a copy stands at its local number
    pub stands : (e : ℕ) → e < set_size g s → has_copy g o s e r ≡ true → (local_at meshes r s e < length (originals meshes r s)) × (original_at meshes r s (local_at meshes r s e) ≡ e)
    stands e le h =
        let c : Contains (originals meshes r s) e = (copies e).1 (le, h) in
        first_stands (originals meshes r s) e c.0 c.1 (place_of (originals meshes r s) e c)

    -- the element with a local number is one of which the rank has a copy, and has this number
    pub is_copy : (k : ℕ) → k < length (originals meshes r s) → (original_at meshes r s k < set_size g s) × (has_copy g o s (original_at meshes r s k) r ≡ true)
    is_copy k l = (copies (original_at meshes r s k)).0 (at_place (originals meshes r s) k l)

    pub local_is : (k : ℕ) → k < length (originals meshes r s) → local_at meshes r s (original_at meshes r s k) ≡ k
    local_is k l = first_is (originals meshes r s) k apart l

    -- core elements by local number
    pub core_is : (k : ℕ) → k < length (originals meshes r s)
        → get_or (core_in (sets_of meshes r) s) k false ≡ (owns o s (original_at meshes r s k) r && is_core g o s (original_at meshes r s k))
    core_is k l =
        let lk : k < length set.original = subst (λ z. k < length z) (sym originals_are) l in
        let own : owns o s (original_at meshes r s k) r ≡ nat_lt k (own_in (sets_of meshes r) s) = ltb_from_iff ((owned k l).1, (owned k l).0) in
        ap (λ z. get_or z k false) (sym cores_are)
        ∙ is_set.core k lk
        ∙ ap (λ z. nat_lt k z && is_core g o s (get_or set.original k 0)) own_is
        ∙ ap (λ z. z && is_core g o s (get_or set.original k 0)) (sym own)
        ∙ ap (λ z. owns o s (original_at meshes r s k) r && is_core g o s (get_or z k 0)) originals_are
