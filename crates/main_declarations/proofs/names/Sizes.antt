-- What a mesh answers for numbers that it doesn't have.
use Rattle.std.proofs.Common.{◌≡◌, ℕ, zero, suc, ◌≤◌, List, [], ◌∷◌, length, refl, arith}
use Rattle.mesh_decl.specs.declared.decl.SetDecl.{SetDecl}
use Rattle.std.specs.Prelude.{map, slice_index}
use Rattle.mesh_decl.specs.declared.decl.MapDecl.{MapDecl}
use Rattle.mesh_decl.specs.declared.decl.DatDecl.{DatDecl}
use Rattle.mesh_decl.specs.Mesh.{MeshValue, size_in, set_count, set_size, map_count, map_from, map_to, map_dim, dat_count, dat_set, dat_dim}

in_past : (ds : List SetDecl) (s : ℕ) → length ds ≤ s → size_in ds s ≡ 0
unfolding size_in
in_past [] zero h = refl
in_past [] (suc s) h = refl
in_past (d ∷ ds) zero h = absurd (omega arith)
in_past (d ∷ ds) (suc s) h = in_past ds s (omega arith)

pub size_past : (g : MeshValue) (s : ℕ) → set_count g ≤ s → set_size g s ≡ 0
size_past g s h = in_past g.sets s h

past : {X : Type 0} (f : X → ℕ) (xs : List X) (i : ℕ) → length xs ≤ i → slice_index (map f xs) i ≡ 0
past f [] zero h = refl
past f [] (suc i) h = refl
past f (x ∷ xs) zero h = absurd (omega arith)
past f (x ∷ xs) (suc i) h = past f xs i (omega arith)

pub dat_set_past : (g : MeshValue) (d : ℕ) → dat_count g ≤ d → dat_set g d ≡ 0
unfolding dat_set
dat_set_past g d h = past (λ (x : DatDecl). x.set) g.dats d h

pub dat_dim_past : (g : MeshValue) (d : ℕ) → dat_count g ≤ d → dat_dim g d ≡ 0
unfolding dat_dim
dat_dim_past g d h = past (λ (x : DatDecl). x.dim) g.dats d h

pub map_from_past : (g : MeshValue) (m : ℕ) → map_count g ≤ m → map_from g m ≡ 0
unfolding map_from
map_from_past g m h = past (λ (x : MapDecl). x.from) g.maps m h

pub map_to_past : (g : MeshValue) (m : ℕ) → map_count g ≤ m → map_to g m ≡ 0
unfolding map_to
map_to_past g m h = past (λ (x : MapDecl). x.to) g.maps m h

pub map_dim_past : (g : MeshValue) (m : ℕ) → map_count g ≤ m → map_dim g m ≡ 0
unfolding map_dim
map_dim_past g m h = past (λ (x : MapDecl). x.dim) g.maps m h
