-- What the reader's functions answer.
use Rattle.std.specs.Prelude.{List, [], ◌∷◌, ◌++◌, Option, Some, None, Result}
use Rattle.op_num.specs.Cut.{Uncut}
use Rattle.op_num.specs.Automaton
use Rattle.schedule_steps.specs.declared.text.lines.Line.{Line}
use Rattle.schedule_steps.specs.declared.text.refusals.ScheduleTextRefusal.{ScheduleTextRefusal}
use Rattle.schedule_steps.specs.declared.text.refusals.ScheduleTextRefusal.TheVariants.{OutOfMemory}
use Rattle.schedule_steps.specs.Reading.{State, Between, End, step, finish}

-- Reading on from here, with this awaited, is reading on from there; or it is refused. Want of memory is free.
abbrev pub Leads : State → Uncut → {X : Type 0} → Result X ScheduleTextRefusal → (X → State) → Uncut → Type 0
Leads p old r q new = Automaton.Leads step finish OutOfMemory p old r q new

-- what is awaited behind a step, or behind `done`
abbrev pub next_state : List Line → Option Line → State
next_state ls None = End ls
next_state ls (Some l) = Between (ls ++ l ∷ [])
