-- What is open and under way, counted step by step.
use Rattle.std.specs.Prelude.{◌≡◌, ℕ, max, List, [], ◌∷◌}
use Rattle.schedule_steps.specs.declared.step.Step.{Step}
use Rattle.schedule_steps.specs.declared.step.Step.TheVariants.{Send, Recv}
use Rattle.schedule_steps.specs.Peaks.{open_step, mail_step}
use Rattle.step_judge.specs.declared.marks.load.Load.{Load}

-- the message of the step has so many cells
abbrev pub HasCells : (ℕ → ℕ → ℕ → ℕ) → Step → ℕ → Type 0
HasCells cells (Send k s r) n = n ≡ cells k s r
HasCells cells (Recv k r s) n = n ≡ cells k s r
HasCells cells _ n = Unit {0}

-- one step more; a message has so many cells by its item, sender and receiver
abbrev pub loaded : (ℕ → ℕ → ℕ → ℕ) → Step → Load → Load
loaded cells s c = record {
  open_elements = open_step s c.open_elements;
  cells = mail_step cells s c.cells;
  peak = record {
    frames = max c.peak.frames (open_step s c.open_elements);
    mail = max c.peak.mail (mail_step cells s c.cells);
  };
}

-- all steps of a list
abbrev pub loaded_all : (ℕ → ℕ → ℕ → ℕ) → List Step → Load → Load
loaded_all cells [] c = c
loaded_all cells (s ∷ l) c = loaded_all cells l (loaded cells s c)

-- nothing is open or under way, and nothing was
abbrev pub no_load : Load
no_load = record { open_elements = 0; cells = 0; peak = record { frames = 0; mail = 0 } }
