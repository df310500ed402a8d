use Rattle.std.proofs.Common.{◌≡◌, ◌*◌, map, length}
use Rattle.std.specs.List.{flat_map}
use Rattle.schedule_model.specs.Cells.{Store}
use Rattle.run_model.specs.Windows.{numbers}
use Rattle.deep_halo.specs.Programs.{program_of_run, owners_of_run}
use Rattle.deep_halo.specs.Orders.{OwnersStand}
use Rattle.deep_halo.proofs.Values.{row_cells}
use Rattle.deep_halo.proofs.hosts.dat_values.Given as goal

abbrev pub invariant-loop-element : goal.invariant-loop-element
invariant-loop-element l = (length l.values.items ≡ l.element * l.dim) × ((s : Store) → OwnersStand (program_of_run l.program) (owners_of_run l.program) l.memory s
    → l.values.items ≡ map s (flat_map (row_cells (program_of_run l.program) l.dat) (numbers l.element)))
