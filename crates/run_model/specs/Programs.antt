-- A bound program as the theorem on schedules has it: its items, and what they do to the values of all cells.
use Rattle.std.specs.Prelude.{List, ℕ, pos, ◌+◌, ◌*◌, length, slice_index_or, Option, Some, None}
use Rattle.kernel_model.specs.declared.types.faults.KernelFault.{KernelFault}
use Rattle.mesh_decl.specs.Mesh.{set_size, dat_set, dat_dim, dat_values}
use Rattle.schedule_model.specs.Cells.{Data, Variable, Store}
use Rattle.schedule_model.specs.Program as program
use Rattle.schedule_model.specs.Program.{Program, Kind, Hosted, Goes}
use Rattle.schedule_model.specs.Sequential.{Seq, Stop, Stopped, Going, sequential}
use Rattle.bound_program.specs.Values.{BoundValue, ItemValue, Free, Reduce, Ordered, Host, ActValue, Exit}
use Rattle.bound_program.specs.Fits.{var_at, site_at}
use Rattle.run_model.specs.Kernels.{element_run}
use Rattle.run_model.specs.Hosts.{act_run}

-- the kind of an item
abbrev pub kind_of : ItemValue → Kind
kind_of (Free s) = program.Free
kind_of (Reduce s) = program.Reduce
kind_of (Ordered s) = program.Ordered
kind_of (Host a) = program.Host

-- the number of an item's loop; a statement that is no loop has none
abbrev pub loop_of : ItemValue → ℕ
loop_of (Free s) = s
loop_of (Reduce s) = s
loop_of (Ordered s) = s
loop_of (Host a) = 0

-- the statement of an item that is no loop
abbrev pub act_in : ItemValue → ActValue
act_in (Host a) = a
act_in x = Exit

-- the bytes that a run printed
abbrev pub printed_in : Seq KernelFault → List ℕ
printed_in (Stopped x s o) = o
printed_in (Going s o) = o

-- where it stopped, and by which fault, if it did
abbrev pub stop_in : Seq KernelFault → Option (Stop KernelFault)
stop_in (Stopped x s o) = Some x
stop_in (Going s o) = None

module _ (b : BoundValue) where
  -- an item by its number
  abbrev pub item_at : ℕ → ItemValue
  item_at k = slice_index_or b.trace k (Host Exit)

  -- the values of the mesh's dats, and those that the variables begin with
  abbrev pub first_values : Store
  first_values (Data c) = slice_index_or (dat_values b.mesh c.dat) (c.element * dat_dim b.mesh c.dat + c.component) (pos 0)
  first_values (Variable v) = slice_index_or (var_at b v.variable).start v.component (pos 0)

  -- the program: items in order, each loop with its set, and each dat with its own
  abbrev pub program_of : Program KernelFault
  program_of = record {
    items = length b.trace;
    kind = λ k. kind_of (item_at k);
    site = λ k. loop_of (item_at k);
    set = λ k. (site_at b (loop_of (item_at k))).set;
    size = λ s. set_size b.mesh s;
    set_of = λ d. dat_set b.mesh d;
    start = first_values;
    run = λ k e s. element_run b (site_at b (loop_of (item_at k))) e s;
    host = λ k s. act_run b s (act_in (item_at k));
  }

  -- the sequential run: each loop one element after another in its set's original order, up to the first fault
  abbrev pub run_of_program : Seq KernelFault
  run_of_program = sequential program_of

  -- the bytes that the program prints
  abbrev pub printed : List ℕ
  printed = printed_in run_of_program

  -- the program's first fault, if it has one
  abbrev pub first_fault : Option (Stop KernelFault)
  first_fault = stop_in run_of_program
