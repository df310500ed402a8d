-- What a run on several ranks puts out, and where it stopped.
use Rattle.std.specs.Prelude.{◌≡◌, ℕ, ℤ, Bool, List, [], if◌then◌else◌}
use Rattle.run_model.specs.Dump.{dump_text}
use Rattle.bound_program.specs.Values.{BoundValue}
use Rattle.run_model.specs.Programs.{first_fault}
use Rattle.bound_plan.specs.Memories.{run_output}
use Rattle.rank_state.specs.Stops.{stop_in}
use Rattle.rank_program.specs.declared.program.DistributedProgram.{DistributedProgram}
use Rattle.rank_exec.specs.declared.running.Outcome.{Outcome}
use Rattle.rank_program.specs.Sound.{program_in}

-- the outcome is that of the program's sequential run, with the dump behind the output where there is no fault
pub record IsRunBy (b : BoundValue) (dump : List ℕ) (o : Outcome) : Type 0 where
  pub out : o.out.items ≡ run_output b dump
  pub stop : stop_in o.stop ≡ first_fault b

-- the dump of these memories, if it is asked for
abbrev pub dump_in : Bool → DistributedProgram → List (List ℤ) → List ℕ
dump_in dumps c memories = if dumps then dump_text (program_in c).mesh c.meshes.now memories else []
