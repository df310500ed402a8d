-- The state before an item has the program's shape, and is read.
use Rattle.std.proofs.Common.{◌≡◌, ℕ, ℤ, zero, suc, ◌+◌, ◌*◌, ◌<◌, refl, sym, ap₂, ◌∙◌, arith, Bool, true, false, List, [], ◌∷◌, ◌++◌, length, length-append, map, suc-mul, zero-mul}
use Rattle.std.specs.Prelude.{if◌then◌else◌, FitsSigned}
use Rattle.std.specs.Int.{w32}
use Rattle.std.specs.List.{flat_map, range_with_len}
use Rattle.std.proofs.lemmas.List.{length-map}
use Rattle.std.proofs.lemmas.List.FromFn.{length-map-range_with_len}
use Rattle.mesh_decl.specs.Mesh.{MeshValue, IsMesh, IsDatAt, dat_count, dat_values, dat_dim, dat_set, set_size}
use Rattle.schedule_model.specs.Cells.{Cell, Data, Variable, Store, InRange}
use Rattle.bound_program.specs.Values.{BoundValue, VarValue}
use Rattle.run_model.specs.Windows.{numbers}
use Rattle.run_model.specs.Hosts.{dat_cells}
use Rattle.checkpoint.specs.Cut.{HasShape, starts, var_values, state_at}
use Rattle.checkpoint.specs.StateTextLaws.{CutsAreRead}
use Rattle.checkpoint.proofs.state_texts.DatLines.{lengths_by_number}
use Rattle.checkpoint.proofs.state_texts.Written.{IntegersAreRead, Small, AllSmall, state_read}
use Rattle.lemmas.proofs.Lists.{map_map, map_range}

module _ (s : Store) where
  -- ---- as many values as cells
  vars_long : (v : ℕ) (xs : List VarValue) → map length (var_values s v xs) ≡ map length (starts xs)
  vars_long v [] = refl
  vars_long v (x ∷ xs) = by (vars_long (suc v) xs) x.is_const
    where
      by : map length (var_values s (suc v) xs) ≡ map length (starts xs) → (t : Bool)
          → map length (if t then var_values s (suc v) xs else map (λ i. s (Variable (record { variable = v; component = i }))) (numbers (length x.start)) ∷ var_values s (suc v) xs)
          ≡ map length (if t then starts xs else x.start ∷ starts xs)
      by e true = e
      by e false = ap₂ (λ n l. n ∷ l) (length-map-range_with_len (λ i. s (Variable (record { variable = v; component = i }))) 0 (length x.start)) e

  rows_long : (f : ℕ → ℕ → Cell) (dim a n : ℕ) → length (flat_map (λ x. map (f x) (numbers dim)) (range_with_len a n)) ≡ n * dim
  rows_long f dim a zero = sym (zero-mul dim)
  rows_long f dim a (suc n) =
      let one : length (map (f a) (numbers dim)) ≡ dim = length-map-range_with_len (f a) 0 dim in
      let more = rows_long f dim (a + 1) n in
      let both : length (map (f a) (numbers dim) ++ flat_map (λ x. map (f x) (numbers dim)) (range_with_len (a + 1) n)) ≡ length
      (map (f a) (numbers dim)) + length (flat_map (λ x. map (f x) (numbers dim)) (range_with_len (a + 1) n)) =
      length-append (map (f a) (numbers dim)) (flat_map (λ x. map (f x) (numbers dim)) (range_with_len (a + 1) n)) in
      let all : suc n * dim ≡ n * dim + dim = suc-mul n dim in
      omega arith

  module _ (b : BoundValue) (at : (d : ℕ) → d < dat_count b.mesh → IsDatAt b.mesh d) where
    dat_long : (d : ℕ) → d < dat_count b.mesh → length (map s (dat_cells b d)) ≡ length (dat_values b.mesh d)
    dat_long d l =
        length-map (dat_cells b d) s
        ∙ (rows_long (λ x i. Data (record { dat = d; element = x; component = i })) (dat_dim b.mesh d) 0 (set_size b.mesh (dat_set b.mesh d)) ∙ sym (at d l).length)

    pub shape_at : (k : ℕ) → HasShape b (state_at b k s)
    shape_at k = record {
      vars = vars_long 0 b.vars;
      dats =
          map_map length (λ d. map s (dat_cells b d)) (numbers (dat_count b.mesh))
          ∙ (map_range (λ d. length (map s (dat_cells b d))) (λ d. length (dat_values b.mesh d)) 0 (dat_count b.mesh) (λ i l. dat_long (0 + i) (let m : 0 + i < dat_count b.mesh = omega arith in m))
          ∙ lengths_by_number b.mesh);
    }

  -- ---- values of 32 bits
  module _ (range : InRange s) where
    small_map : {A : Type 0} (f : A → ℤ) → ((x : A) → FitsSigned w32 (f x)) → (xs : List A) → Small (map f xs)
    small_map f h [] = tt
    small_map f h (x ∷ xs) = (h x, small_map f h xs)

    vars_small : (v : ℕ) (xs : List VarValue) → AllSmall (var_values s v xs)
    vars_small v [] = tt
    vars_small v (x ∷ xs) = by (vars_small (suc v) xs) x.is_const
      where
        by : AllSmall (var_values s (suc v) xs) → (t : Bool)
            → AllSmall (if t then var_values s (suc v) xs else map (λ i. s (Variable (record { variable = v; component = i }))) (numbers (length x.start)) ∷ var_values s (suc v) xs)
        by h true = h
        by h false = (small_map (λ i. s (Variable (record { variable = v; component = i }))) (λ i. range (Variable (record { variable = v; component = i }))) (numbers (length x.start)), h)

    dats_small : (b : BoundValue) (ds : List ℕ) → AllSmall (map (λ d. map s (dat_cells b d)) ds)
    dats_small b [] = tt
    dats_small b (d ∷ ds) = (small_map s range (dat_cells b d), dats_small b ds)

pub cuts_are_read : IntegersAreRead → ((g : MeshValue) → IsMesh g → (d : ℕ) → d < dat_count g → IsDatAt g d) → CutsAreRead
cuts_are_read read at b o k s mesh plain can range =
    state_read read b o (state_at b k s) plain (at b.mesh mesh) can (shape_at s b (at b.mesh mesh) k) (vars_small s range 0 b.vars) (dats_small s range b (numbers (dat_count b.mesh)))
