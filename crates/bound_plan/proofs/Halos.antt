-- Halos, core elements and messages of the setup.
use Rattle.std.proofs.Common.{◌≡◌, ◌≢◌, ◌<◌, ℕ, true, false, ◌⊎◌, inr, List, get_or, refl, sym, ap, ◌∙◌, arith, ⊎_elim}
use Rattle.std.specs.Prelude.{◌&&◌, ◌||◌, nat_eq, map}
use Rattle.std.specs.List.{list_any}
use Rattle.std.proofs.lemmas.Bool.{cases_lt, false≢true, or_cases, or_left, or_right, and_parts, eqb-true, eq-eqb}
use Rattle.std.proofs.lemmas.List.{get_or_past, length-map}
use Rattle.std.proofs.lemmas.List.Folds.{list_any_at}
use Rattle.mesh_decl.specs.declared.decl.SetDecl.{SetDecl}
use Rattle.mesh_decl.specs.declared.owners.Owners.{Owners}
use Rattle.mesh_decl.specs.declared.owners.Perms.{Perms}
use Rattle.mesh_decl.specs.Mesh.{MeshValue, IsMesh, size_in, set_count, map_count, set_size, map_from, map_to, map_dim, target, dat_set}
use Rattle.mesh_decl.specs.Owners.{AreOwners, owner_of}
use Rattle.local_mesh.specs.Halo.{owns, executes, imports, imports_execute, imports_nonexecute, is_core}
use Rattle.local_mesh.specs.declared.types.RankMesh.{RankMesh}
use Rattle.loop_plan.specs.Pairs.{sets_of, imports_from, passes}
use Rattle.loop_plan.specs.Distributed.{IsDistributed}
use Rattle.bound_plan.specs.Given.{HaloLaws}
use Rattle.lemmas.proofs.Lists.{any_at}

-- a set with an element is one of the mesh
pub set_there : (g : MeshValue) (s e : ℕ) → e < set_size g s → s < set_count g
unfolding size_in
set_there g s e l = ⊎_elim
    (λ h. h)
    (λ h.
    let z : set_size g s ≡ 0 = get_or_past (map (λ (d : SetDecl). d.size) g.sets) s 0 (omega (arith, length-map g.sets (λ (d : SetDecl). d.size))) in
    absurd (omega arith))
    (cases_lt s (set_count g))

pub owns_is : (o : Owners) (s e r : ℕ) → owner_of o s e ≡ r → owns o s e r ≡ true
unfolding owns
owns_is o s e r h = eq-eqb (owner_of o s e) r h

pub owner_is : (o : Owners) (s e r : ℕ) → owns o s e r ≡ true → owner_of o s e ≡ r
unfolding owns
owner_is o s e r h = eqb-true (owner_of o s e) r h

module _ (laws : HaloLaws) (g : MeshValue) (mesh : IsMesh g) (o : Owners) where
  pub owners : AreOwners g o → (s e : ℕ) → e < set_size g s → owner_of o s e < o.ranks
  owners are s e l = are.below s e (set_there g s e l) l

  pub execute_if : (r s e m i : ℕ) → owner_of o s e ≢ r → m < map_count g → map_from g m ≡ s → i < map_dim g m
      → owner_of o (map_to g m) (target g m e i) ≡ r → imports_execute g o s e r ≡ true
  execute_if r s e m i ne lm fm li h = (laws.imported g o s e r).1 (ne, (m, i, lm, fm, li, h))

  pub execute_other : (r s e : ℕ) → imports_execute g o s e r ≡ true → owner_of o s e ≢ r
  execute_other r s e h = ((laws.imported g o s e r).0 h).0

  pub executing : (r s e : ℕ) → (owner_of o s e ≡ r) ⊎ (imports_execute g o s e r ≡ true) → executes g o s e r ≡ true
  unfolding executes
  executing r s e h = ⊎_elim
      (λ t. or_left (owns o s e r) (imports_execute g o s e r) (owns_is o s e r t))
      (λ t. or_right (owns o s e r) (imports_execute g o s e r) t)
      h

  pub nonexecute_if : (r m e i : ℕ) → m < map_count g → i < map_dim g m → e < set_size g (map_from g m)
      → (owner_of o (map_from g m) e ≡ r) ⊎ (imports_execute g o (map_from g m) e r ≡ true)
      → owner_of o (map_to g m) (target g m e i) ≢ r
      → imports_execute g o (map_to g m) (target g m e i) r ≡ false
      → imports_nonexecute g o (map_to g m) (target g m e i) r ≡ true
  nonexecute_if r m e i lm li le h ne none =
      let y : ℕ = target g m e i in
      let t : ℕ = map_to g m in
      ⊎_elim
      (λ w. absurd (ne (owner_is o t y r w)))
      (λ w. ⊎_elim (λ x. absurd (false≢true (sym none ∙ x))) (λ x. x) (or_cases (imports_execute g o t y r) (imports_nonexecute g o t y r) w))
      (or_cases (owns o t y r) (imports_execute g o t y r || imports_nonexecute g o t y r)
      (laws.targets g o m e i r lm le (executing r (map_from g m) e h) li))

  pub imports_either : (r s e : ℕ) → (imports_execute g o s e r ≡ true) ⊎ (imports_nonexecute g o s e r ≡ true) → imports g o s e r ≡ true
  unfolding imports
  imports_either r s e h = ⊎_elim
      (λ t. or_left (imports_execute g o s e r) (imports_nonexecute g o s e r) t)
      (λ t. or_right (imports_execute g o s e r) (imports_nonexecute g o s e r) t)
      h

  pub nonexecute_other : (r s e : ℕ) → imports_nonexecute g o s e r ≡ true → owner_of o s e ≢ r
  nonexecute_other r s e h = laws.others g o s e r (imports_either r s e (inr h))

  pub core_own : (r s e : ℕ) → (owns o s e r && is_core g o s e) ≡ true → owner_of o s e ≡ r
  core_own r s e h = owner_is o s e r (and_parts (owns o s e r) (is_core g o s e) h).0

  pub core_targets : (r s e m i : ℕ) → (owns o s e r && is_core g o s e) ≡ true → m < map_count g → map_from g m ≡ s → i < map_dim g m
      → owner_of o (map_to g m) (target g m e i) ≡ r
  core_targets r s e m i h lm fm li = laws.core g o s e m i (and_parts (owns o s e r) (is_core g o s e) h).1 lm fm li ∙ core_own r s e h

  pub sent : (n : Perms) (meshes : List RankMesh) → IsDistributed g o n meshes → (dats : List ℕ) (r d e : ℕ) → r < o.ranks
      → list_any (nat_eq d) dats ≡ true
      → e < set_size g (dat_set g d)
      → (imports_execute g o (dat_set g d) e r ≡ true) ⊎ (imports_nonexecute g o (dat_set g d) e r ≡ true)
      → passes g meshes dats (owner_of o (dat_set g d) e) r ≡ true
  sent n meshes dist dats r d e lr h le i =
      let w = any_at (nat_eq d) dats h in
      let same : d ≡ get_or dats w.0 0 = eqb-true d (get_or dats w.0 0) w.2 in
      let s : ℕ = owner_of o (dat_set g d) e in
      list_any_at (λ z. imports_from (sets_of meshes s) (sets_of meshes r) (dat_set g z)) dats w.0 0 w.1
      (ap (λ z. imports_from (sets_of meshes s) (sets_of meshes r) (dat_set g z)) (sym same)
      ∙ (laws.messages g o n meshes dist.are_perms dist.are_meshes s r (dat_set g d)
      (owners dist.are_owners (dat_set g d) e le) lr (set_there g (dat_set g d) e le)).1
      (e, le, imports_either r (dat_set g d) e i, owns_is o (dat_set g d) e s refl))
