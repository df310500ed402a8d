-- What a run on whole arrays answers, and the run that the theorem on schedules is about.
use Rattle.std.specs.Prelude.{◌≡◌, ℕ, List}
use Rattle.bound_program.specs.Values.{BoundValue}
use Rattle.bound_program.specs.Fits.{Fits}
use Rattle.run_model.specs.Programs.{first_fault}
use Rattle.bound_plan.specs.Memories.{run_output}
use Rattle.answers.specs.Answers.{ran, run_answer}

-- for a program that fits, both answer the same
abbrev pub RunsAnswerOnCells : Type 0
RunsAnswerOnCells =
    (first : ℕ) (b : BoundValue) → Fits b → (dump : List ℕ) → run_answer first b dump ≡ ran first (first_fault b) (run_output b dump)
