-- Names that a mesh doesn't have are empty.
use Rattle.std.proofs.Common.{◌≡◌, ℕ, zero, suc, ◌≤◌, List, [], ◌∷◌, map, length, refl, arith}
use Rattle.std.specs.Prelude.{slice_index_or}
use Rattle.mesh_decl.specs.declared.decl.SetDecl.{SetDecl}
use Rattle.mesh_decl.specs.declared.decl.DatDecl.{DatDecl}
use Rattle.mesh_decl.specs.Mesh.{MeshValue, set_count, set_name, dat_count, dat_name}

past : {X : Type 0} (f : X → List ℕ) (xs : List X) (i : ℕ) → length xs ≤ i → length (slice_index_or (map f xs) i []) ≡ 0
past f [] zero h = refl
past f [] (suc i) h = refl
past f (x ∷ xs) zero h = absurd (omega arith)
past f (x ∷ xs) (suc i) h = past f xs i (omega arith)

pub no_dat_name : (g : MeshValue) (d : ℕ) → dat_count g ≤ d → length (dat_name g d) ≡ 0
unfolding dat_name
no_dat_name g d h = past (λ (x : DatDecl). x.name) g.dats d h

pub no_set_name : (g : MeshValue) (s : ℕ) → set_count g ≤ s → length (set_name g s) ≡ 0
unfolding set_name
no_set_name g s h = past (λ (x : SetDecl). x.name) g.sets s h
