-- One rank owns each element, and imports nothing.
use Rattle.std.proofs.Common.{◌≡◌, ℕ, zero, suc, ◌<◌, Bool, true, false, ◌&&◌, List, [], get_or, replicate, refl, ap, ◌∙◌, arith}
use Rattle.std.proofs.lemmas.Bool.{false_from_ne_true, or_left, or_right}
use Rattle.std.proofs.lemmas.List.{get_or-replicate}
use Rattle.mesh_decl.specs.declared.owners.Owners.{Owners}
use Rattle.mesh_decl.specs.Mesh.{MeshValue, set_count, set_size, IsInRange}
use Rattle.mesh_decl.specs.Owners.{AreOwners, owner_of}
use Rattle.lemmas.specs.Below.{listed}
use Rattle.local_mesh.specs.Halo.{imports_execute, imports_nonexecute, imports, owns, is_core}
use Rattle.local_mesh.proofs.halo_lists.Implied.{imported_of_others}
use Rattle.local_mesh.proofs.halo_lists.Importing.{execute_below, core_iff}

-- where no number passes, none is listed
listed_none : (n : ℕ) (p : ℕ → Bool) → ((k : ℕ) → k < n → p k ≡ false) → listed n p ≡ []
listed_none zero p h = refl
listed_none (suc n) p h = rw (h n (omega arith), listed_none n p (λ k l. h k (omega arith))) refl

module _ (g : MeshValue) (o : Owners) (ok : IsInRange g) (own : AreOwners g o) (one : o.ranks ≡ 1) (s : ℕ) (ls : s < set_count g) where
  owner_is : (x r : ℕ) → x < set_size g s → r < 1 → owner_of o s x ≡ r
  owner_is x r lx lr = let l = own.below s x ls lx in omega (arith, one)

  no_import : (x r : ℕ) → x < set_size g s → r < 1 → imports g o s x r ≡ false
  no_import x r lx lr = false_from_ne_true (imports g o s x r) (λ t. imported_of_others g o s x r t (owner_is x r lx lr))

  no_execute : (x r : ℕ) → x < set_size g s → imports_execute g o s x r ≡ false
  unfolding imports
  no_execute x r lx = false_from_ne_true (imports_execute g o s x r)
      (λ t. imported_of_others g o s x r (or_left (imports_execute g o s x r) (imports_nonexecute g o s x r) t)
      (owner_is x r lx (let l = execute_below g o s x r ok own lx t in omega (arith, one))))

  no_nonexecute : (x r : ℕ) → x < set_size g s → r < 1 → imports_nonexecute g o s x r ≡ false
  unfolding imports
  no_nonexecute x r lx lr = false_from_ne_true (imports_nonexecute g o s x r)
      (λ t. imported_of_others g o s x r (or_right (imports_execute g o s x r) (imports_nonexecute g o s x r) t) (owner_is x r lx lr))

  pub none_executes : (r : ℕ) → listed (set_size g s) (λ x. imports_execute g o s x r) ≡ []
  none_executes r = listed_none (set_size g s) (λ x. imports_execute g o s x r) (λ x lx. no_execute x r lx)

  pub none_reads : (r : ℕ) → r < o.ranks → listed (set_size g s) (λ x. imports_nonexecute g o s x r) ≡ []
  none_reads r l = let lr : r < 1 = omega (arith, one) in
      listed_none (set_size g s) (λ x. imports_nonexecute g o s x r) (λ x lx. no_nonexecute x r lx lr)

  pub none_exports : (a r : ℕ) → r < o.ranks → listed (set_size g s) (λ x. imports g o s x r && owns o s x a) ≡ []
  none_exports a r l = let lr : r < 1 = omega (arith, one) in
      listed_none (set_size g s) (λ x. imports g o s x r && owns o s x a) (λ x lx. rw (no_import x r lx lr) refl)

  pub all_core : (core : List Bool) (n : ℕ) → n ≡ set_size g s → core ≡ replicate n true → (x : ℕ) → x < set_size g s → get_or core x false ≡ is_core g o s x
  all_core core n q e x lx =
      let ln : x < n = omega arith in
      ap (λ (z : List Bool). get_or z x false) e
      ∙ (get_or-replicate n x true false ln ∙ core_iff g o s x ok own ls lx true (λ _ r l. no_execute x r lx, λ _. refl))
