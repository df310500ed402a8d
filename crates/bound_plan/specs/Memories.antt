-- The memories of the ranks after a list of steps, and what a run puts out.
use Rattle.std.specs.Prelude.{ℕ, ℤ, Bool, List, [], ◌++◌, Option, Some, None, if◌then◌else◌}
use Rattle.kernel_model.specs.declared.types.faults.KernelFault.{KernelFault}
use Rattle.mesh_decl.specs.declared.owners.Owners.{Owners}
use Rattle.local_mesh.specs.declared.types.RankMesh.{RankMesh}
use Rattle.schedule_steps.specs.declared.step.Step.{Step}
use Rattle.schedule_model.specs.Sequential.{Stop}
use Rattle.schedule_model.specs.Flat.{flat_from}
use Rattle.run_model.specs.Dump.{dump_text}
use Rattle.bound_program.specs.Values.{BoundValue}
use Rattle.run_model.specs.Programs.{printed, first_fault}
use Rattle.loop_plan.specs.Values.{PlanValue}
use Rattle.bound_plan.specs.Setups.{setup_of}
use Rattle.bound_plan.specs.Layouts.{layout_of}
use Rattle.bound_plan.specs.Starts.{first_flat}

-- by rank, the buffer of the machine on flat buffers once it has taken the steps, up to the first that stops
abbrev pub memories_after : BoundValue → Owners → List RankMesh → PlanValue → List Step → List (List ℤ)
memories_after b o meshes p steps =
    (flat_from (setup_of b o meshes p) (layout_of b o meshes p) steps
    (first_flat (setup_of b o meshes p) (layout_of b o meshes p))).memories

-- the dump of these memories, if it is asked for
abbrev pub dump_of : Bool → BoundValue → Owners → List RankMesh → PlanValue → List Step → List ℕ
dump_of dumps b o meshes p steps = if dumps then dump_text b.mesh meshes (memories_after b o meshes p steps) else []

-- what was printed, and a dump behind it where there was no fault
abbrev pub unless_stopped : Option (Stop KernelFault) → (bytes dump : List ℕ) → List ℕ
unless_stopped None bytes dump = bytes ++ dump
unless_stopped (Some x) bytes dump = bytes

-- what a run puts out: what the program prints in sequence, and a dump behind it where it has no fault
abbrev pub run_output : BoundValue → (dump : List ℕ) → List ℕ
run_output b dump = unless_stopped (first_fault b) (printed b) dump
