-- What is said of owners and new numbers is said of their lists.
use Rattle.std.proofs.Common.{◌≡◌, ℕ, ◌<◌, Bool, ◌&&◌, ◌||◌, not, nat_eq, nat_lt, List, [], get_or, sym, ap, subst, ◌∙◌}
use Rattle.std.proofs.Math.Path.{fun_ext}
use Rattle.lemmas.specs.Below.{any_below, listed}
use Rattle.mesh_decl.specs.declared.owners.Owners.{Owners}
use Rattle.mesh_decl.specs.declared.owners.Perms.{Perms}
use Rattle.mesh_decl.specs.Mesh.{MeshValue, map_count, set_size, map_from, map_to, map_dim, target}
use Rattle.mesh_decl.specs.Owners.{owners_in, owner_of, perm_in}
use Rattle.local_mesh.specs.Halo.{reaches, owns, imports_execute, executes, named_from, imports_nonexecute, imports, is_core}
use Rattle.local_mesh.specs.declared.halo_lists.types.SetHalo.{SetHalo}
use Rattle.local_mesh.specs.declared.halo_lists.types.Halos.{Halos}
use Rattle.local_mesh.specs.Halos.{IsSetHalo, AreHalos}
use Rattle.local_mesh.specs.declared.types.LocalSet.{LocalSet}
use Rattle.local_mesh.specs.declared.types.RankMesh.{RankMesh}
use Rattle.local_mesh.specs.Local.{earlier, AreInverse}
use Rattle.local_mesh.specs.Parts.{by_new}
use Rattle.local_mesh.specs.LocalMesh.{IsLocalSet, IsRankMesh, AreRankMeshes}
use Rattle.partition.specs.Laws.{SameOwners, SamePerms}

module _ (g : MeshValue) (o u : Owners) (same : SameOwners o u) where
  owner_same : owner_of o ≡ owner_of u
  unfolding owner_of owners_in
  owner_same = fun_ext (λ s. fun_ext (λ x. ap (λ (zs : List (List ℕ)). get_or (get_or zs s []) x 0) same.1))

  reaches_same : reaches g o ≡ reaches g u
  unfolding reaches
  reaches_same = ap {B = ℕ → ℕ → ℕ → Bool}
      (λ (f : ℕ → ℕ → ℕ) (s x r : ℕ). any_below (map_count g)
      (λ m. nat_eq (map_from g m) s && any_below (map_dim g m) (λ i. nat_eq (f (map_to g m) (target g m x i)) r))) owner_same

  pub owns_same : owns o ≡ owns u
  unfolding owns
  owns_same = ap {B = ℕ → ℕ → ℕ → Bool} (λ (f : ℕ → ℕ → ℕ) (s x r : ℕ). nat_eq (f s x) r) owner_same

  pub execute_same : imports_execute g o ≡ imports_execute g u
  unfolding imports_execute
  execute_same =
      ap {B = ℕ → ℕ → ℕ → Bool} (λ (f : ℕ → ℕ → ℕ → Bool) (s x r : ℕ). not (f s x r) && reaches g o s x r) owns_same
      ∙ ap {B = ℕ → ℕ → ℕ → Bool} (λ (f : ℕ → ℕ → ℕ → Bool) (s x r : ℕ). not (owns u s x r) && f s x r) reaches_same

  executes_same : executes g o ≡ executes g u
  unfolding executes
  executes_same =
      ap {B = ℕ → ℕ → ℕ → Bool} (λ (f : ℕ → ℕ → ℕ → Bool) (s x r : ℕ). f s x r || imports_execute g o s x r) owns_same
      ∙ ap {B = ℕ → ℕ → ℕ → Bool} (λ (f : ℕ → ℕ → ℕ → Bool) (s x r : ℕ). owns u s x r || f s x r) execute_same

  pub nonexecute_same : imports_nonexecute g o ≡ imports_nonexecute g u
  unfolding imports_nonexecute
  nonexecute_same = ap {B = ℕ → ℕ → ℕ → Bool} (λ (f : ℕ → ℕ → ℕ → Bool) (s y r : ℕ). named_from g f s y r && not (f s y r)) executes_same

  imports_same : imports g o ≡ imports g u
  unfolding imports
  imports_same =
      ap {B = ℕ → ℕ → ℕ → Bool} (λ (f : ℕ → ℕ → ℕ → Bool) (s x r : ℕ). f s x r || imports_nonexecute g o s x r) execute_same
      ∙ ap {B = ℕ → ℕ → ℕ → Bool} (λ (f : ℕ → ℕ → ℕ → Bool) (s x r : ℕ). imports_execute g u s x r || f s x r) nonexecute_same

  pub core_same : is_core g o ≡ is_core g u
  unfolding is_core
  core_same = ap {B = ℕ → ℕ → Bool}
      (λ (f : ℕ → ℕ → ℕ) (s x : ℕ). not
      (any_below (map_count g) (λ m. nat_eq (map_from g m) s && any_below (map_dim g m)
      (λ i. not (nat_eq (f (map_to g m) (target g m x i)) (f s x)))))) owner_same

  module _ (s : ℕ) (h : SetHalo) (k : IsSetHalo g o s h) where
    below : (r : ℕ) → r < u.ranks → r < o.ranks
    below r l = subst (λ n. r < n) (sym same.0) l

    set_halo_same : IsSetHalo g u s h
    set_halo_same = record {
      exec_count = k.exec_count ∙ same.0;
      exec = λ r l. k.exec r (below r l) ∙ ap (λ (f : ℕ → ℕ → ℕ → Bool). listed (set_size g s) (λ x. f s x r)) execute_same;
      nonexec_count = k.nonexec_count ∙ same.0;
      nonexec = λ r l. k.nonexec r (below r l) ∙ ap (λ (f : ℕ → ℕ → ℕ → Bool). listed (set_size g s) (λ x. f s x r)) nonexecute_same;
      export_count = k.export_count ∙ same.0;
      export_counts = λ a l. k.export_counts a (below a l) ∙ same.0;
      exports = λ a r la lr. k.exports a r (below a la) (below r lr)
          ∙ (ap (λ (f : ℕ → ℕ → ℕ → Bool). listed (set_size g s) (λ x. f s x r && owns o s x a)) imports_same
          ∙ ap (λ (f : ℕ → ℕ → ℕ → Bool). listed (set_size g s) (λ x. imports g u s x r && f s x a)) owns_same);
      core_count = k.core_count;
      core = λ x l. k.core x l ∙ ap (λ (f : ℕ → ℕ → Bool). f s x) core_same;
    }

  pub halos_alike : (h : Halos) → AreHalos g o h → AreHalos g u h
  halos_alike h k = record { ranks = k.ranks ∙ same.0; count = k.count; sets = λ s d l. set_halo_same s (get_or h.sets.items s d) (k.sets s d l) }

  module _ (p q : Perms) (numbers : SamePerms p q) where
    numbers_same : by_new p ≡ by_new q
    unfolding perm_in
    numbers_same = ap {B = ℕ → ℕ → ℕ} (λ (zs : List (List ℕ)) (s j : ℕ). get_or (get_or zs s []) j 0) numbers

    local_set_same : (s r : ℕ) (l : LocalSet) → IsLocalSet g o p s r l → IsLocalSet g u q s r l
    local_set_same s r l k = record {
      own = k.own
          ∙ (ap (λ (n : ℕ → ℕ → ℕ). earlier (n s) (λ x. owns o s x r) (set_size g s)) numbers_same
          ∙ ap (λ (f : ℕ → ℕ → ℕ → Bool). earlier (by_new q s) (λ x. f s x r) (set_size g s)) owns_same);
      exec = k.exec
          ∙ (ap (λ (n : ℕ → ℕ → ℕ). earlier (n s) (λ x. imports_execute g o s x r) (set_size g s)) numbers_same
          ∙ ap (λ (f : ℕ → ℕ → ℕ → Bool). earlier (by_new q s) (λ x. f s x r) (set_size g s)) execute_same);
      nonexec = k.nonexec
          ∙ (ap (λ (n : ℕ → ℕ → ℕ). earlier (n s) (λ x. imports_nonexecute g o s x r) (set_size g s)) numbers_same
          ∙ ap (λ (f : ℕ → ℕ → ℕ → Bool). earlier (by_new q s) (λ x. f s x r) (set_size g s)) nonexecute_same);
      inverse =
          subst (λ (f : ℕ → ℕ → ℕ → Bool). AreInverse (set_size g s) (by_new q s) (λ x. owns u s x r) (λ x. imports_execute g u s x r) (λ x. f s x r) l.original) nonexecute_same
          (subst (λ (f : ℕ → ℕ → ℕ → Bool). AreInverse (set_size g s) (by_new q s) (λ x. owns u s x r) (λ x. f s x r) (λ x. imports_nonexecute g o s x r) l.original) execute_same
          (subst (λ (f : ℕ → ℕ → ℕ → Bool). AreInverse (set_size g s) (by_new q s) (λ x. f s x r) (λ x. imports_execute g o s x r) (λ x. imports_nonexecute g o s x r) l.original) owns_same
          (subst (λ (n : ℕ → ℕ → ℕ). AreInverse (set_size g s) (n s) (λ x. owns o s x r) (λ x. imports_execute g o s x r) (λ x. imports_nonexecute g o s x r) l.original) numbers_same k.inverse)));
      core_count = k.core_count;
      core = λ i li. k.core i li ∙ ap (λ (f : ℕ → ℕ → Bool). nat_lt i l.own && f s (get_or l.original i 0)) core_same;
    }

    rank_mesh_same : (r : ℕ) (m : RankMesh) → IsRankMesh g o p r m → IsRankMesh g u q r m
    rank_mesh_same r m k = record {
      sets_count = k.sets_count;
      sets = λ s d l. local_set_same s r (get_or m.sets.items s d) (k.sets s d l);
      maps_count = k.maps_count;
      maps = k.maps;
      bases = k.bases;
    }

    pub rank_meshes_alike : (meshes : List RankMesh) → AreRankMeshes g o p meshes → AreRankMeshes g u q meshes
    rank_meshes_alike meshes k = record {
      count = k.count ∙ same.0;
      ranks = λ r d l. rank_mesh_same r (get_or meshes r d) (k.ranks r d (subst (λ n. r < n) (sym same.0) l));
    }
