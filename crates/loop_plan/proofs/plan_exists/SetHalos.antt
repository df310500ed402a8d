-- The halos of a mesh, by number.
use Rattle.std.proofs.Common.{◌≡◌, ◌≤◌, ◌<◌, ◌^◌, ℕ, false, ◌&&◌, List, length, refl, sym, ap, ◌∙◌, subst, arith, Vec, Global, get_or}
use Rattle.lemmas.specs.Below.{listed, row, rows}
use Rattle.mesh_decl.specs.declared.owners.Owners.{Owners}
use Rattle.mesh_decl.specs.Mesh.{MeshValue, set_count, set_size}
use Rattle.local_mesh.specs.declared.halo_lists.types.SetHalo.{SetHalo}
use Rattle.local_mesh.specs.declared.halo_lists.types.Halos.{Halos}
use Rattle.local_mesh.specs.Halo.{imports_execute, imports_nonexecute, imports, is_core, owns}
use Rattle.local_mesh.specs.Halos.{IsSetHalo, AreHalos}
use Rattle.loop_plan.proofs.plan_exists.Built.{table, length_table, table_at, vec_of, items_are, row_is, rows_are}
use Rattle.loop_plan.proofs.plan_exists.Short.{short_listed}

module _ (g : MeshValue) (o : Owners) where
  exec_list : ℕ → ℕ → List ℕ
  exec_list s r = listed (set_size g s) (λ x. imports_execute g o s x r)

  nonexec_list : ℕ → ℕ → List ℕ
  nonexec_list s r = listed (set_size g s) (λ x. imports_nonexecute g o s x r)

  export_list : ℕ → ℕ → ℕ → List ℕ
  export_list s a r = listed (set_size g s) (λ x. imports g o s x r && owns o s x a)

  by_owner : ℕ → ℕ → List (Vec ℕ Global)
  by_owner s a = table o.ranks (λ r. vec_of (export_list s a r))

  set_halo : ℕ → SetHalo
  set_halo s = record {
    exec = vec_of (table o.ranks (λ r. vec_of (exec_list s r)));
    nonexec = vec_of (table o.ranks (λ r. vec_of (nonexec_list s r)));
    exports = vec_of (table o.ranks (λ a. vec_of (by_owner s a)));
    core = vec_of (table (set_size g s) (is_core g o s));
  }

  pub halos_of : Halos
  halos_of = record { ranks = o.ranks; sets = vec_of (table (set_count g) set_halo) }

  module _ (sizes : (s : ℕ) → set_size g s < 2 ^ 32) (few : o.ranks ≤ 64) where
    -- a list of so many is short
    by_rank : {X : Type 0} (f : ℕ → X) → length (table o.ranks f) < 2 ^ 63
    by_rank f = let e = length_table o.ranks f in omega (arith, few)

    set_halo_is : (s : ℕ) → IsSetHalo g o s (set_halo s)
    unfolding set_halo exec_list nonexec_list export_list by_owner
    set_halo_is s = record {
      exec_count = ap length (items_are (table o.ranks (λ r. vec_of (exec_list s r))) (by_rank (λ r. vec_of (exec_list s r)))) ∙ length_table o.ranks (λ r. vec_of (exec_list s r));
      exec = λ r l. ap (λ z. row z r) (items_are (table o.ranks (λ r. vec_of (exec_list s r))) (by_rank (λ r. vec_of (exec_list s r))))
          ∙ row_is o.ranks (exec_list s) r l (short_listed (set_size g s) (λ x. imports_execute g o s x r) (sizes s));
      nonexec_count = ap length (items_are (table o.ranks (λ r. vec_of (nonexec_list s r))) (by_rank (λ r. vec_of (nonexec_list s r)))) ∙ length_table o.ranks (λ r. vec_of (nonexec_list s r));
      nonexec = λ r l. ap (λ z. row z r) (items_are (table o.ranks (λ r. vec_of (nonexec_list s r))) (by_rank (λ r. vec_of (nonexec_list s r))))
          ∙ row_is o.ranks (nonexec_list s) r l (short_listed (set_size g s) (λ x. imports_nonexecute g o s x r) (sizes s));
      export_count = ap length (items_are (table o.ranks (λ a. vec_of (by_owner s a))) (by_rank (λ a. vec_of (by_owner s a)))) ∙ length_table o.ranks (λ a. vec_of (by_owner s a));
      export_counts = λ a l. ap length (owner_rows a l) ∙ length_table o.ranks (λ r. vec_of (export_list s a r));
      exports = λ a r l lr. ap (λ z. row z r) (owner_rows a l)
          ∙ row_is o.ranks (export_list s a) r lr (short_listed (set_size g s) (λ x. imports g o s x r && owns o s x a) (sizes s));
      core_count = ap length core_items ∙ length_table (set_size g s) (is_core g o s);
      core = λ x l. ap (λ z. get_or z x false) core_items ∙ table_at (set_size g s) (is_core g o s) x false l;
    }
      where
        owner_rows : (a : ℕ) → a < o.ranks → rows (vec_of (table o.ranks (λ a. vec_of (by_owner s a)))).items a ≡ by_owner s a
        owner_rows a l =
            ap (λ z. rows z a) (items_are (table o.ranks (λ a. vec_of (by_owner s a))) (by_rank (λ a. vec_of (by_owner s a))))
            ∙ rows_are o.ranks (by_owner s) a l (by_rank (λ r. vec_of (export_list s a r)))

        core_items : (vec_of (table (set_size g s) (is_core g o s))).items ≡ table (set_size g s) (is_core g o s)
        core_items = items_are (table (set_size g s) (is_core g o s)) (let e = length_table (set_size g s) (is_core g o s) in let b = sizes s in omega arith)

    pub are_halos : set_count g < 2 ^ 63 → AreHalos g o halos_of
    unfolding halos_of
    are_halos few_sets = record {
      ranks = refl;
      count = ap length sets ∙ length_table (set_count g) set_halo;
      sets = λ s d l. subst (IsSetHalo g o s) (sym (ap (λ z. get_or z s d) sets ∙ table_at (set_count g) set_halo s d l)) (set_halo_is s);
    }
      where
        sets : (vec_of (table (set_count g) set_halo)).items ≡ table (set_count g) set_halo
        sets = items_are (table (set_count g) set_halo) (let e = length_table (set_count g) set_halo in omega arith)
