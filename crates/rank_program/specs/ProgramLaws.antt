-- What the machine asks of a distributed program beside its methods.
use Rattle.std.specs.Prelude.{◌≡◌, ◌<◌, ℕ, true, length, refl}
use Rattle.std.proofs.lemmas.List.{length-map}
use Rattle.schedule_model.specs.Program.{is_loop, elements}
use Rattle.run_model.specs.Kernels.{constants}
use Rattle.bound_plan.specs.Variables.{variable_index}
use Rattle.rank_program.specs.declared.program.DistributedProgram.{DistributedProgram}
use Rattle.rank_program.specs.Sound.{Takes, program_in, setup_in, layout_in, tables_in}

module _ (c : DistributedProgram) where
  -- each loop's kernel runs for each element, on all constants and the cells of the element's frame
  pub each_runs : (k e : ℕ) → is_loop ((setup_in c).program.kind k) ≡ true → e < elements (setup_in c).program k
      → Takes c k e (length (tables_in c).constants) (length ((layout_in c).cells k e))
  each_runs k e loop there = record {
    is_loop = loop;
    element = there;
    constants = length-map (constants (program_in c)) (variable_index (program_in c));
    windows = refl;
  }
