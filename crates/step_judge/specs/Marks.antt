-- Tasks with a stage each, and which of them are done.
use Rattle.std.specs.Prelude.{◌≡◌, ◌<◌, ℕ, Bool, true, false, List, [], get_or, length}

-- tasks that are done or not; those of a lower stage come before those of a higher one
pub record Marks : Type 0 where
  pub of : List ℕ  -- task: its stage
  pub done : List Bool  -- task

-- each task of the stage is done
abbrev pub StageDone : Marks → ℕ → Type 0
StageDone m c = (t : ℕ) → t < length m.of → get_or m.of t 0 ≡ c → get_or m.done t false ≡ true

-- each task of a lower stage is done
abbrev pub LowerDone : Marks → ℕ → Type 0
LowerDone m c = (t : ℕ) → t < length m.of → get_or m.of t 0 < c → get_or m.done t false ≡ true

-- each task is done
abbrev pub AllDone : Marks → Type 0
AllDone m = (t : ℕ) → t < length m.of → get_or m.done t false ≡ true

-- a task that isn't there
abbrev pub no_marks : Marks
no_marks = record { of = []; done = [] }
