-- The values of a program in whole arrays: one for each dat of its mesh and one for each variable; and what loops' arguments name there.
use Rattle.std.specs.Prelude.{ℕ, ℤ, pos, ◌+◌, ◌*◌, List, [], ◌∷◌, ◌++◌, map, length, take, drop, replicate, sum_by, Option, Some, None}
use Rattle.kernel_model.specs.Meaning.{Store, Target}
use Rattle.mesh_decl.specs.declared.decl.DatDecl.{DatDecl}
use Rattle.mesh_decl.specs.Mesh.{dat_count, dat_dim, target}
use Rattle.bound_program.specs.declared.sites.Arg.{Arg}
use Rattle.bound_program.specs.declared.sites.Arg.TheVariants.{Dat, Global}
use Rattle.bound_program.specs.Values.{BoundValue, VarValue}
use Rattle.bound_program.specs.Fits.{var_at, constant_cells}

-- the dats' arrays in order of declaration, each element by element, and behind them the variables'
abbrev pub Arrays : Type 0
Arrays = Store

-- constants by their numbers, with a variable's cells from its first number on, where it has one
abbrev pub with_constants : (first : Option ℕ) → (cells constants : List ℤ) → List ℤ
with_constants None cells constants = constants
with_constants (Some first) cells constants = take first constants ++ cells ++ drop (first + length cells) constants

-- the constants of variables with these arrays: n numbers, each that of a cell
abbrev pub constants_of : (n : ℕ) → List VarValue → Arrays → List ℤ
constants_of n [] arrays = replicate n (pos 0)
constants_of n (x ∷ xs) [] = replicate n (pos 0)
constants_of n (x ∷ xs) (cells ∷ arrays) = with_constants x.constant cells (constants_of n xs arrays)

module _ (b : BoundValue) where
  -- the number of a variable's array
  abbrev pub array_of : ℕ → ℕ
  array_of v = dat_count b.mesh + v

  -- before the run: the values that the mesh has, and those that variables begin with
  abbrev pub first_arrays : Arrays
  first_arrays = map (λ (d : DatDecl). d.values) b.mesh.dats ++ map (λ (v : VarValue). v.start) b.vars

  -- the cells of an element of a dat
  abbrev pub cells_of : (dat element : ℕ) → Target
  cells_of d x = record { array = d; from = x * dat_dim b.mesh d; count = dat_dim b.mesh d }

  -- the cells that an argument names for element e of its loop: those of that element of a dat, those of the element where a map leads,
  -- or all of a variable
  abbrev pub target_of : ℕ → Arg → Target
  target_of e (Dat d None a) = cells_of d e
  target_of e (Dat d (Some v) a) = cells_of d (target b.mesh v.map e v.index)
  target_of e (Global v a) = record { array = array_of v; from = 0; count = length (var_at b v).start }

  -- the constants that kernels read
  abbrev pub constants_in : Arrays → List ℤ
  constants_in arrays = constants_of (sum_by constant_cells b.vars) b.vars (drop (dat_count b.mesh) arrays)
