-- A loop's arguments as the theorem on schedules names them, and the cells that they reach.
use Rattle.std.specs.Prelude.{ℕ, Bool, true, false, ◌&&◌, List, length, map, Option, Some, None, nat_lt, slice_index_or}
use Rattle.op_num.specs.Access.{Access, access_of}
use Rattle.op_num.specs.declared.reductions.access.Access.TheVariants.{Read}
use Rattle.kernel_model.specs.Obeys.{Mode}
use Rattle.mesh_decl.specs.declared.access.Via.{Via}
use Rattle.mesh_decl.specs.Mesh.{target, dat_dim}
use Rattle.schedule_model.specs.Cells.{Cell, Data, Variable}
use Rattle.schedule_model.specs.Arguments.{Argument, Direct, Indirect, Entries}
use Rattle.schedule_model.specs.Arguments as laws
use Rattle.bound_program.specs.declared.sites.Arg.{Arg}
use Rattle.bound_program.specs.declared.sites.Arg.TheVariants.{Dat, Global}
use Rattle.bound_program.specs.Values.{BoundValue, SiteValue}
use Rattle.bound_program.specs.Fits.{var_at}
use Rattle.run_model.specs.Windows.{reached, cell_in}

-- what stands for an argument that is not there
abbrev pub no_arg : Arg
no_arg = Global 0 Read

-- an argument of a loop by its number
abbrev pub arg_at : SiteValue → ℕ → Arg
arg_at site a = slice_index_or site.args a no_arg

-- how the kernel may use it
abbrev pub access_by : Arg → Access
access_by (Dat d v a) = access_of a
access_by (Global v a) = access_of a

-- an argument on a dat, direct or by a map
abbrev pub on_dat : ℕ → Option Via → Access → Argument
on_dat d None a = Direct d a
on_dat d (Some v) a = Indirect d v.map v.index a

-- the argument as the theorem names it
abbrev pub argument_of : Arg → Argument
argument_of (Dat d v a) = on_dat d v (access_of a)
argument_of (Global v a) = laws.Global v (access_of a)

-- the argument of a loop, by its number, as the theorem names it
abbrev pub argument_at : SiteValue → ℕ → Argument
argument_at site a = argument_of (arg_at site a)

-- there is a value
abbrev pub is_there : Option ℕ → Bool
is_there None = false
is_there (Some n) = true

module _ (b : BoundValue) where
  -- the entries of the mesh's maps
  abbrev pub entries : Entries
  entries m e i = target b.mesh m e i

  -- the components of a dat
  abbrev pub dat_width : ℕ → ℕ
  dat_width d = dat_dim b.mesh d

  -- the components of a variable
  abbrev pub var_width : ℕ → ℕ
  var_width v = length (var_at b v).start

  -- the components of what the argument reaches
  abbrev pub arg_width : Arg → ℕ
  arg_width (Dat d v a) = dat_width d
  arg_width (Global v a) = var_width v

  -- the access and the components of an argument
  abbrev pub mode_of : Arg → Mode
  mode_of x = record { access = access_by x; dim = arg_width x }

  -- those of a loop's arguments
  abbrev pub modes_of : SiteValue → List Mode
  modes_of site = map mode_of site.args

  -- the cell of an argument's component, for an element
  abbrev pub cell_of : SiteValue → ℕ → ℕ → ℕ → Cell
  cell_of site e a i = cell_in (reached b e (arg_at site a)) i

  -- the cell is of a variable that kernels read as a constant
  abbrev pub is_constant : Cell → Bool
  is_constant (Data c) = false
  is_constant (Variable v) = is_there (var_at b v.variable).constant && nat_lt v.component (var_width v.variable)
