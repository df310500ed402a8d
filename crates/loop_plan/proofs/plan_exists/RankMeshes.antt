-- The local mesh of a rank, by number.
use Rattle.std.proofs.Common.{◌≡◌, ◌+◌, ◌*◌, ◌/◌, ◌%◌, ◌≤◌, ◌<◌, ◌^◌, ℕ, true, List, length, get_or, sym, ap, ◌∙◌, subst, arith, mul-le-mul_right}
use Rattle.std.proofs.lemmas.Nat.{div-mul-add, mod-mul-add, mul-add-lt}
use Rattle.lemmas.specs.Below.{row}
use Rattle.mesh_decl.specs.declared.owners.Owners.{Owners}
use Rattle.mesh_decl.specs.declared.owners.Perms.{Perms}
use Rattle.mesh_decl.specs.Mesh.{MeshValue, IsMapAt, set_count, map_count, dat_count, set_size, map_from, map_to, map_dim, map_targets, target}
use Rattle.mesh_decl.specs.Owners.{ArePerms}
use Rattle.local_mesh.specs.Halo.{executes, has_copy}
use Rattle.local_mesh.specs.declared.types.LocalSet.{LocalSet}
use Rattle.local_mesh.specs.declared.types.RankMesh.{RankMesh}
use Rattle.local_mesh.specs.LocalMesh.{IsLocalSet, IsRankMesh, AreLocalTargets, AreClosed, originals_in, executed_in, cells_before}
use Rattle.local_mesh.proofs.Public.{originals_at, sets_closed}
use Rattle.loop_plan.proofs.plan_exists.Built.{table, length_table, table_at, vec_of, items_are, row_is}
use Rattle.loop_plan.proofs.plan_exists.Found.{found, found_in}
use Rattle.loop_plan.proofs.plan_exists.Sets.{local_set, originals_are, few_originals, local_set_is}

module _ (g : MeshValue) (o : Owners) (p : Perms) (r : ℕ) where
  sets : List LocalSet
  sets = table (set_count g) (local_set g o p r)

  -- the local target at place j of the targets by map m
  local_target : ℕ → ℕ → ℕ
  local_target m j = found (target g m (get_or (originals_in sets (map_from g m)) (j / map_dim g m) 0) (j % map_dim g m)) (originals_in sets (map_to g m))

  target_count : ℕ → ℕ
  target_count m = executed_in sets (map_from g m) * map_dim g m

  local_targets : ℕ → List ℕ
  local_targets m = table (target_count m) (local_target m)

  pub rank_mesh : RankMesh
  rank_mesh = record {
    sets = vec_of sets;
    maps = vec_of (table (map_count g) (λ m. vec_of (local_targets m)));
    bases = vec_of (table (dat_count g) (cells_before g sets));
    cells = cells_before g sets (dat_count g);
  }

  module _
      (sizes : (s : ℕ) → set_size g s < 2 ^ 32)
      (few_sets : set_count g < 2 ^ 32)
      (few_maps : map_count g < 2 ^ 32)
      (few_dats : dat_count g < 2 ^ 32)
      (maps : (m : ℕ) → m < map_count g → IsMapAt g m)
      (short : (m : ℕ) → m < map_count g → length (map_targets g m) < 2 ^ 63)
      (perms : ArePerms g p)
      (copied : (m x i : ℕ) → m < map_count g → x < set_size g (map_from g m) → executes g o (map_from g m) x r ≡ true → i < map_dim g m → has_copy g o (map_to g m) (target g m x i) r ≡ true)
    where
      sets_are : (s : ℕ) (d : LocalSet) → s < set_count g → IsLocalSet g o p s r (get_or sets s d)
      unfolding sets
      sets_are s d l = subst (IsLocalSet g o p s r) (sym (table_at (set_count g) (local_set g o p r) s d l)) (local_set_is g o p r sizes perms s l)

      sets_count : length sets ≡ set_count g
      unfolding sets
      sets_count = length_table (set_count g) (local_set g o p r)

      closed : AreClosed g sets
      closed = sets_closed g o p r sets sets_count perms sets_are sizes maps copied

      few_held : (s : ℕ) → s < set_count g → length (originals_in sets s) ≤ set_size g s
      unfolding sets
      few_held s l = rw (originals_at sets s (local_set g o p r s) (rw sets_count l)
          ∙ ap (λ z. z.original) (table_at (set_count g) (local_set g o p r) s (local_set g o p r s) l) ∙ originals_are g o p r s)
          (few_originals g o p r sizes perms s l)

      targets_short : (m : ℕ) → m < map_count g → length (local_targets m) < 2 ^ 63
      unfolding local_targets target_count
      targets_short m l =
          let f = (maps m l).from in
          let e : executed_in sets (map_from g m) ≤ set_size g (map_from g m) = let x = closed.executed (map_from g m) f in let y = few_held (map_from g m) f in omega arith in
          let h : executed_in sets (map_from g m) * map_dim g m ≤ set_size g (map_from g m) * map_dim g m = mul-le-mul_right (map_dim g m) e in
          let c = length_table (target_count m) (local_target m) in
          let s = short m l in
          let w = (maps m l).length in
          omega arith

      -- the target of an element that the rank executes
      stands : (m k i : ℕ) → m < map_count g → k < executed_in sets (map_from g m) → i < map_dim g m
          → (get_or (local_targets m) (k * map_dim g m + i) 0 < length (originals_in sets (map_to g m)))
          × (get_or (originals_in sets (map_to g m)) (get_or (local_targets m) (k * map_dim g m + i) 0) 0 ≡ target g m (get_or (originals_in sets (map_from g m)) k 0) i)
      unfolding local_targets target_count local_target
      stands m k i lm lk li =
          let at = table_at (target_count m) (local_target m) (k * map_dim g m + i) 0 (let b = mul-add-lt k (map_dim g m) i (executed_in sets (map_from g m)) lk li in omega arith) in
          rw at (rw (div-mul-add k (map_dim g m) i li, mod-mul-add k (map_dim g m) i li)
          (found_in (target g m (get_or (originals_in sets (map_from g m)) k 0) i) (originals_in sets (map_to g m)) (closed.targets m k i lm lk li)))

      targets_are : (m : ℕ) → m < map_count g → AreLocalTargets g m sets (local_targets m)
      unfolding local_targets target_count
      targets_are m l = record {
        count = length_table (target_count m) (local_target m);
        within = λ k i lk li. (stands m k i l lk li).0;
        targets = λ k i lk li. (stands m k i l lk li).1;
      }

      set_items : (vec_of sets).items ≡ sets
      set_items = items_are sets (let e = sets_count in omega arith)

      map_items : (vec_of (table (map_count g) (λ m. vec_of (local_targets m)))).items ≡ table (map_count g) (λ m. vec_of (local_targets m))
      map_items = items_are (table (map_count g) (λ m. vec_of (local_targets m))) (let e = length_table (map_count g) (λ m. vec_of (local_targets m)) in omega arith)

      base_items : (vec_of (table (dat_count g) (cells_before g sets))).items ≡ table (dat_count g) (cells_before g sets)
      base_items = items_are (table (dat_count g) (cells_before g sets)) (let e = length_table (dat_count g) (cells_before g sets) in omega arith)

      row_at : (m : ℕ) → m < map_count g → row (vec_of (table (map_count g) (λ m. vec_of (local_targets m)))).items m ≡ local_targets m
      row_at m l = ap (λ z. row z m) map_items ∙ row_is (map_count g) local_targets m l (targets_short m l)

      pub rank_mesh_is : IsRankMesh g o p r rank_mesh
      unfolding rank_mesh
      rank_mesh_is = record {
        sets_count = ap length set_items ∙ sets_count;
        sets = λ s d l. subst (λ z. IsLocalSet g o p s r (get_or z s d)) (sym set_items) (sets_are s d l);
        maps_count = ap length map_items ∙ length_table (map_count g) (λ m. vec_of (local_targets m));
        maps = λ m l. subst (λ z. AreLocalTargets g m z (row (vec_of (table (map_count g) (λ m. vec_of (local_targets m)))).items m)) (sym set_items)
            (subst (AreLocalTargets g m sets) (sym (row_at m l)) (targets_are m l));
        bases = record {
          count = ap length base_items ∙ length_table (dat_count g) (cells_before g sets);
          bases = λ d l. ap (λ z. get_or z d 0) base_items ∙ (table_at (dat_count g) (cells_before g sets) d 0 l ∙ ap (λ z. cells_before g z d) (sym set_items));
          cells = ap (λ z. cells_before g z (dat_count g)) (sym set_items);
        };
      }
