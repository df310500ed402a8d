-- Owners and new numbers have one local mesh for each rank.
use Rattle.std.proofs.Common.{◌≡◌, ℕ, zero, suc, ◌+◌, ◌*◌, ◌<◌, Bool, false, ◌&&◌, nat_lt, List, [], map, length, get_or, refl, sym, ap, ◌∙◌, arith, subst}
use Rattle.std.proofs.lemmas.List.{ext_get_or, get_or-map, length-map}
use Rattle.std.proofs.lemmas.Simd.{map-map}
use Rattle.mesh_decl.specs.declared.owners.Owners.{Owners}
use Rattle.mesh_decl.specs.declared.owners.Perms.{Perms}
use Rattle.mesh_decl.specs.Mesh.{MeshValue, set_count, map_count, dat_count, set_size, map_from, map_to, map_dim, target, dat_set, IsInRange}
use Rattle.mesh_decl.specs.Owners.{ArePerms}
use Rattle.mesh_decl.proofs.Public.{some_in}
use Rattle.lemmas.specs.Below.{row}
use Rattle.local_mesh.specs.Halo.{owns, imports_execute, imports_nonexecute, is_core}
use Rattle.local_mesh.specs.HaloValues.{lists_of}
use Rattle.local_mesh.proofs.halo_lists.OneHalo.{same_lists}
use Rattle.local_mesh.specs.declared.types.LocalSet.{LocalSet}
use Rattle.local_mesh.specs.declared.types.RankMesh.{RankMesh}
use Rattle.local_mesh.specs.Local.{AreInverse}
use Rattle.local_mesh.specs.Parts.{by_new}
use Rattle.local_mesh.specs.LocalMesh.{IsLocalSet, IsRankMesh, AreRankMeshes, AreLocalTargets, originals_in, executed_in, cells_before}
use Rattle.local_mesh.specs.Values.{LocalSetValue, local_set_value, RankMeshValue, rank_mesh_value}
use Rattle.local_mesh.proofs.Standing.{in_row}
use Rattle.local_mesh.proofs.Firsts.{distinct}

-- one list of originals
one_inverse : (n : ℕ) (order : ℕ → ℕ) (p q r : ℕ → Bool) (xs ys : List ℕ) → AreInverse n order p q r xs → AreInverse n order p q r ys → xs ≡ ys
one_inverse n order p q r xs ys h k = ext_get_or 0 xs ys (h.count ∙ sym k.count)
    (λ i l.
    let a = h.numbered i l in
    a.3 ∙ sym (subst (λ z. get_or ys z 0 ≡ order a.0) a.4 (k.at_number a.0 a.1 a.2)))

module _ (g : MeshValue) (o : Owners) (p : Perms) (r : ℕ) where
  one_set : (s : ℕ) (a b : LocalSet) → IsLocalSet g o p s r a → IsLocalSet g o p s r b → local_set_value a ≡ local_set_value b
  unfolding local_set_value
  one_set s a b h k =
      let own : a.own ≡ b.own = h.own ∙ sym k.own in
      let exec : a.exec ≡ b.exec = h.exec ∙ sym k.exec in
      let nonexec : a.nonexec ≡ b.nonexec = h.nonexec ∙ sym k.nonexec in
      let original : a.original ≡ b.original =
      one_inverse (set_size g s) (by_new p s) (λ x. owns o s x r) (λ x. imports_execute g o s x r) (λ x. imports_nonexecute g o s x r) a.original b.original h.inverse k.inverse in
      let same : length a.original ≡ length b.original = ap (λ (z : List ℕ). length z) original in
      let core : a.core.items ≡ b.core.items = ext_get_or false a.core.items b.core.items (h.core_count ∙ (same ∙ sym k.core_count))
      (λ i l.
      let la : i < length a.original = omega (arith, h.core_count) in
      let lb : i < length b.original = omega arith in
      h.core i la
      ∙ (ap (λ z. nat_lt i z && is_core g o s (get_or a.original i 0)) own
      ∙ (ap (λ (z : List ℕ). nat_lt i b.own && is_core g o s (get_or z i 0)) original ∙ sym (k.core i lb)))) in
      rw (own, exec, nonexec, original, core) refl

  one_sets : (a b : RankMesh) → IsRankMesh g o p r a → IsRankMesh g o p r b → map local_set_value a.sets.items ≡ map local_set_value b.sets.items
  one_sets a b h k =
      let lx : length (map local_set_value a.sets.items) ≡ set_count g = length-map a.sets.items local_set_value ∙ h.sets_count in
      let ly : length (map local_set_value b.sets.items) ≡ set_count g = length-map b.sets.items local_set_value ∙ k.sets_count in
      let none : LocalSetValue = record { own = 0; exec = 0; nonexec = 0; original = []; core = [] } in
      ext_get_or none (map local_set_value a.sets.items) (map local_set_value b.sets.items) (lx ∙ sym ly)
      (λ s l.
      let ls : s < set_count g = omega arith in
      let la : s < length a.sets.items = omega (arith, h.sets_count) in
      let lb : s < length b.sets.items = omega (arith, k.sets_count) in
      let da : LocalSet = some_in a.sets.items s la in
      let db : LocalSet = some_in b.sets.items s lb in
      get_or-map local_set_value a.sets.items s da none la
      ∙ (one_set s (get_or a.sets.items s da) (get_or b.sets.items s db) (h.sets s da ls) (k.sets s db ls)
      ∙ sym (get_or-map local_set_value b.sets.items s db none lb)))

-- what is read of sets, from what they hold
same_read : {X : Type 0} (f : LocalSetValue → X) (a b : List LocalSet) → map local_set_value a ≡ map local_set_value b
    → map (λ (l : LocalSet). f (local_set_value l)) a ≡ map (λ (l : LocalSet). f (local_set_value l)) b
same_read f a b e = sym (map-map f local_set_value a) ∙ (ap (map f) e ∙ map-map f local_set_value b)

same_originals : (a b : List LocalSet) → map local_set_value a ≡ map local_set_value b → (s : ℕ) → originals_in a s ≡ originals_in b s
unfolding originals_in local_set_value
same_originals a b e s = ap (λ (z : List (List ℕ)). get_or z s []) (same_read (λ v. v.original) a b e)

same_executed : (a b : List LocalSet) → map local_set_value a ≡ map local_set_value b → (s : ℕ) → executed_in a s ≡ executed_in b s
unfolding executed_in local_set_value
same_executed a b e s = ap (λ (z : List ℕ). get_or z s 0) (same_read (λ v. v.own + v.exec) a b e)

same_before : (g : MeshValue) (a b : List LocalSet) → ((s : ℕ) → originals_in a s ≡ originals_in b s) → (d : ℕ) → cells_before g a d ≡ cells_before g b d
same_before g a b e zero = refl
same_before g a b e (suc d) = rw (same_before g a b e d, e (dat_set g d)) refl

module _ (g : MeshValue) (o : Owners) (p : Perms) (range : IsInRange g) (perms : ArePerms g p) where
  -- one table of local targets
  one_table : (r m : ℕ) (a b : RankMesh) → IsRankMesh g o p r a → IsRankMesh g o p r b
      → map local_set_value a.sets.items ≡ map local_set_value b.sets.items → m < map_count g → row a.maps.items m ≡ row b.maps.items m
  one_table r m a b h k e l =
      let ta : AreLocalTargets g m a.sets.items (row a.maps.items m) = h.maps m l in
      let tb : AreLocalTargets g m b.sets.items (row b.maps.items m) = k.maps m l in
      let n : executed_in a.sets.items (map_from g m) ≡ executed_in b.sets.items (map_from g m) = same_executed a.sets.items b.sets.items e (map_from g m) in
      let from : originals_in a.sets.items (map_from g m) ≡ originals_in b.sets.items (map_from g m) = same_originals a.sets.items b.sets.items e (map_from g m) in
      let to : originals_in a.sets.items (map_to g m) ≡ originals_in b.sets.items (map_to g m) = same_originals a.sets.items b.sets.items e (map_to g m) in
      ext_get_or 0 (row a.maps.items m) (row b.maps.items m) (ta.count ∙ (ap (λ z. z * map_dim g m) n ∙ sym tb.count))
      (λ c lc.
      let q = in_row c (executed_in a.sets.items (map_from g m)) (map_dim g m) (omega (arith, ta.count)) in
      let lb : q.0 < executed_in b.sets.items (map_from g m) = omega (arith, q.2) in
      let x : ℕ = get_or (row a.maps.items m) (q.0 * map_dim g m + q.1) 0 in
      let y : ℕ = get_or (row b.maps.items m) (q.0 * map_dim g m + q.1) 0 in
      let wx : x < length (originals_in a.sets.items (map_to g m)) = ta.within q.0 q.1 q.2 q.3 in
      let wy : y < length (originals_in a.sets.items (map_to g m)) = subst (λ (z : List ℕ). y < length z) (sym to) (tb.within q.0 q.1 lb q.3) in
      let ex : get_or (originals_in a.sets.items (map_to g m)) x 0 ≡ target g m (get_or (originals_in a.sets.items (map_from g m)) q.0 0) q.1 = ta.targets q.0 q.1 q.2 q.3 in
      let ey : get_or (originals_in b.sets.items (map_to g m)) y 0 ≡ target g m (get_or (originals_in b.sets.items (map_from g m)) q.0 0) q.1 = tb.targets q.0 q.1 lb q.3 in
      let f : get_or (originals_in a.sets.items (map_to g m)) x 0 ≡ get_or (originals_in a.sets.items (map_to g m)) y 0 =
      ex ∙ (ap (λ (z : List ℕ). target g m (get_or z q.0 0) q.1) from ∙ (sym ey ∙ sym (ap (λ (z : List ℕ). get_or z y 0) to))) in
      let one : x ≡ y = distinct g o p r a h (map_to g m) (range.maps m l).to perms x y wx wy f in
      subst (λ z. get_or (row a.maps.items m) z 0 ≡ get_or (row b.maps.items m) z 0) q.4 one)

  pub one_rank_mesh : (r : ℕ) (a b : RankMesh) → IsRankMesh g o p r a → IsRankMesh g o p r b → rank_mesh_value a ≡ rank_mesh_value b
  unfolding rank_mesh_value
  one_rank_mesh r a b h k =
      let sets : map local_set_value a.sets.items ≡ map local_set_value b.sets.items = one_sets g o p r a b h k in
      let maps : lists_of a.maps.items ≡ lists_of b.maps.items = same_lists a.maps.items b.maps.items (map_count g) h.maps_count k.maps_count (λ m l. one_table r m a b h k sets l) in
      let before : (d : ℕ) → cells_before g a.sets.items d ≡ cells_before g b.sets.items d = same_before g a.sets.items b.sets.items (same_originals a.sets.items b.sets.items sets) in
      let bases : a.bases.items ≡ b.bases.items = ext_get_or 0 a.bases.items b.bases.items (h.bases.count ∙ sym k.bases.count)
      (λ d l. let ld : d < dat_count g = omega (arith, h.bases.count) in h.bases.bases d ld ∙ (before d ∙ sym (k.bases.bases d ld))) in
      let cells : a.cells ≡ b.cells = h.bases.cells ∙ (before (dat_count g) ∙ sym k.bases.cells) in
      rw (sets, maps, bases, cells) refl

  pub one_rank_meshes : (a b : List RankMesh) → AreRankMeshes g o p a → AreRankMeshes g o p b → map rank_mesh_value a ≡ map rank_mesh_value b
  one_rank_meshes a b h k =
      let lx : length (map rank_mesh_value a) ≡ o.ranks = length-map a rank_mesh_value ∙ h.count in
      let ly : length (map rank_mesh_value b) ≡ o.ranks = length-map b rank_mesh_value ∙ k.count in
      let none : RankMeshValue = record { sets = []; maps = []; bases = []; cells = 0 } in
      ext_get_or none (map rank_mesh_value a) (map rank_mesh_value b) (lx ∙ sym ly)
      (λ r l.
      let lr : r < o.ranks = omega arith in
      let la : r < length a = omega (arith, h.count) in
      let lb : r < length b = omega (arith, k.count) in
      let da : RankMesh = some_in a r la in
      let db : RankMesh = some_in b r lb in
      get_or-map rank_mesh_value a r da none la
      ∙ (one_rank_mesh r (get_or a r da) (get_or b r db) (h.ranks r da lr) (k.ranks r db lr)
      ∙ sym (get_or-map rank_mesh_value b r db none lb)))
