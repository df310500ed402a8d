-- What is planned is the mesh on ranks, and a plan of the program there.
use Rattle.std.proofs.Common.{refl}
use Rattle.bound_program.specs.Values.{bound_of}
use Rattle.loop_plan.specs.Planned.{PlannedValue, FitTogether}
use Rattle.cell_numbers.specs.Shown.{IsOnRanks}

pub on_ranks : (p : PlannedValue) → FitTogether p → IsOnRanks (bound_of p.bound) p.distribution p.plan
on_ranks p h = record {
  owners = h.distributed.are_owners;
  numbers = h.numbers;
  perms = h.distributed.are_perms;
  distributed = record { owners = refl; halos = h.are_halos; ranks = h.distributed.are_meshes };
  planned = h.proper;
}
