use Rattle.std.proofs.Common.{◌≡◌, map, flat_map}
use Rattle.kernel_model.specs.declared.types.faults.KernelFault.{KernelFault}
use Rattle.schedule_model.specs.Flat.{Flat, owned}
use Rattle.run_model.specs.Windows.{numbers}
use Rattle.rank_state.specs.Shows.{Shows}
use Rattle.rank_exec.proofs.Hosting.{row_cells}
use Rattle.rank_program.specs.Sound.{program_in, setup_in, layout_in, tables_in}
use Rattle.rank_exec.proofs.hosts.dat_values.Given as goal

abbrev pub invariant-loop-element : goal.invariant-loop-element
invariant-loop-element l =
    (f : Flat KernelFault) → Shows (setup_in l.program) (layout_in l.program) (tables_in l.program) l.machine f
    → l.values.items ≡ map (owned (setup_in l.program) (layout_in l.program) f) (flat_map (row_cells (program_in l.program) l.dat) (numbers l.element))
