-- The limits of a program.
use Rattle.std.specs.Prelude.{ℕ}
use Rattle.bound_program.specs.declared.limits.TheConstants.{MAX_SETS, MAX_MAPS, MAX_DATS, MAX_SIZE, MAX_DIM, MAX_CELLS, MAX_ARGUMENTS, MAX_TRACE, MAX_WEIGHT}

-- of the sets that are declared
abbrev pub max_sets : ℕ
max_sets = MAX_SETS

-- of the maps that are declared
abbrev pub max_maps : ℕ
max_maps = MAX_MAPS

-- of the dats that are declared
abbrev pub max_dats : ℕ
max_dats = MAX_DATS

-- of the elements of a set
abbrev pub max_size : ℕ
max_size = MAX_SIZE

-- of the dim of a dat, a map or a global
abbrev pub max_dim : ℕ
max_dim = MAX_DIM

-- of the elements of all sets, and the values of all maps and dats
abbrev pub max_cells : ℕ
max_cells = MAX_CELLS

-- of the arguments of a loop
abbrev pub max_arguments : ℕ
max_arguments = MAX_ARGUMENTS

-- of the items of the trace, with the turns of all `for`
abbrev pub max_trace : ℕ
max_trace = MAX_TRACE

-- of the bytes that are printed, as they are weighed before the run
abbrev pub max_weight : ℕ
max_weight = MAX_WEIGHT
