-- Arrays that hold the values of a store of cells.
use Rattle.std.specs.Prelude.{◌≡◌, ◌<◌, ℕ, ◌+◌, ◌*◌, [], length, slice_index_or}
use Rattle.kernel_model.specs.Meaning.{cell}
use Rattle.mesh_decl.specs.Mesh.{dat_count, set_size, dat_set, dat_dim}
use Rattle.schedule_model.specs.Cells.{Cell, Data, Variable, Store}
use Rattle.bound_program.specs.Values.{BoundValue}
use Rattle.bound_program.specs.Fits.{var_at}
use Rattle.run_model.specs.Arrays.{Arrays, array_of}

module _ (b : BoundValue) where
  -- the mesh or a variable has the cell
  abbrev pub IsCell : Cell → Type 0
  IsCell (Data c) =
      (c.dat < dat_count b.mesh) × (c.element < set_size b.mesh (dat_set b.mesh c.dat)) × (c.component < dat_dim b.mesh c.dat)
  IsCell (Variable v) = (v.variable < length b.vars) × (v.component < length (var_at b v.variable).start)

  -- the array in which it stands
  abbrev pub array_with : Cell → ℕ
  array_with (Data c) = c.dat
  array_with (Variable v) = array_of b v.variable

  -- where it stands there
  abbrev pub index_of : Cell → ℕ
  index_of (Data c) = c.element * dat_dim b.mesh c.dat + c.component
  index_of (Variable v) = v.component

  -- each cell has its value in the arrays, which are as many and as long as the mesh and the variables say
  pub record Holds (arrays : Arrays) (s : Store) : Type 0 where
    pub count : length arrays ≡ dat_count b.mesh + length b.vars
    pub dats : (d : ℕ) → d < dat_count b.mesh
        → length (slice_index_or arrays d []) ≡ set_size b.mesh (dat_set b.mesh d) * dat_dim b.mesh d
    pub vars : (v : ℕ) → v < length b.vars → length (slice_index_or arrays (array_of b v) []) ≡ length (var_at b v).start
    pub values : (c : Cell) → IsCell c → cell arrays (array_with c) (index_of c) ≡ s c
