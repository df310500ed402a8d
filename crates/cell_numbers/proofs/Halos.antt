-- What a rank imports of a set, read from the halos of a mesh.
use Rattle.std.proofs.Common.{◌≡◌, ℕ, zero, suc, ◌<◌, refl, sym, ap, subst, ◌∙◌, arith, List, [], ◌∷◌, Vec, length, get_or}
use Rattle.std.specs.declared.alloc.Global.{Global}
use Rattle.std.proofs.lemmas.List.{get_or-map}
use Rattle.lemmas.specs.Below.{row, listed}
use Rattle.mesh_decl.specs.declared.owners.Owners.{Owners}
use Rattle.mesh_decl.specs.Mesh.{MeshValue, set_count, set_size}
use Rattle.local_mesh.specs.declared.halo_lists.types.SetHalo.{SetHalo}
use Rattle.local_mesh.specs.declared.halo_lists.types.Halos.{Halos}
use Rattle.local_mesh.specs.Halo.{imports_execute, imports_nonexecute}
use Rattle.local_mesh.specs.Halos.{IsSetHalo, AreHalos}
use Rattle.cell_numbers.specs.Marks.{exec_in, nonexec_in}

-- ---- lists as code reads them

pub exec_read : (h : Halos) (s : ℕ) (x : SetHalo) → s < length h.sets.items → x ≡ get_or h.sets.items s x → exec_in h s ≡ x.exec.items
unfolding exec_in
exec_read h s x l e =
    get_or-map (λ (y : SetHalo). y.exec.items) h.sets.items s x [] l ∙ ap (λ (y : SetHalo). y.exec.items) (sym e)

pub nonexec_read : (h : Halos) (s : ℕ) (x : SetHalo) → s < length h.sets.items → x ≡ get_or h.sets.items s x
    → nonexec_in h s ≡ x.nonexec.items
unfolding nonexec_in
nonexec_read h s x l e =
    get_or-map (λ (y : SetHalo). y.nonexec.items) h.sets.items s x [] l ∙ ap (λ (y : SetHalo). y.nonexec.items) (sym e)

pub row_read : (lists : List (Vec ℕ Global)) (r : ℕ) (v : Vec ℕ Global) → r < length lists → v ≡ get_or lists r v → row lists r ≡ v.items
unfolding row
row_read lists r v l e = get_or-map (λ (y : Vec ℕ Global). y.items) lists r v [] l ∙ ap (λ (y : Vec ℕ Global). y.items) (sym e)

-- ---- what they hold

some_at : {X : Type 0} (xs : List X) (k : ℕ) → k < length xs → (x : X) × (x ≡ get_or xs k x)
some_at [] k l = absurd (omega arith)
some_at (x ∷ xs) zero l = (x, refl)
some_at (x ∷ xs) (suc k) l = some_at xs k (omega arith)

module _ (g : MeshValue) (o : Owners) (h : Halos) (are : AreHalos g o h) (s : ℕ) (within : s < set_count g) where
  here : s < length h.sets.items
  here = subst (λ (n : ℕ). s < n) (sym are.count) within

  halo : (x : SetHalo) × (x ≡ get_or h.sets.items s x)
  halo = some_at h.sets.items s here

  is_halo : IsSetHalo g o s halo.0
  is_halo = subst (λ (x : SetHalo). IsSetHalo g o s x) (sym halo.1) (are.sets s halo.0 within)

  pub exec_rank : (r : ℕ) → r < o.ranks → r < length (exec_in h s)
  exec_rank r l = subst (λ (xs : List (Vec ℕ Global)). r < length xs) (sym (exec_read h s halo.0 here halo.1))
      (subst (λ (n : ℕ). r < n) (sym is_halo.exec_count) l)

  pub exec_row : (r : ℕ) → r < o.ranks → row (exec_in h s) r ≡ listed (set_size g s) (λ x. imports_execute g o s x r)
  exec_row r l = ap (λ (xs : List (Vec ℕ Global)). row xs r) (exec_read h s halo.0 here halo.1) ∙ is_halo.exec r l

  pub nonexec_rank : (r : ℕ) → r < o.ranks → r < length (nonexec_in h s)
  nonexec_rank r l = subst (λ (xs : List (Vec ℕ Global)). r < length xs) (sym (nonexec_read h s halo.0 here halo.1))
      (subst (λ (n : ℕ). r < n) (sym is_halo.nonexec_count) l)

  pub nonexec_row : (r : ℕ) → r < o.ranks → row (nonexec_in h s) r ≡ listed (set_size g s) (λ x. imports_nonexecute g o s x r)
  nonexec_row r l = ap (λ (xs : List (Vec ℕ Global)). row xs r) (nonexec_read h s halo.0 here halo.1) ∙ is_halo.nonexec r l
