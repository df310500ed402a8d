-- What a checker answers.
use Rattle.std.specs.Prelude.{Bool, cond, Option, Some, None, Result, Ok, Err}
use Rattle.schedule_steps.specs.Outline.{Outline}
use Rattle.schedule_steps.specs.declared.step.Step.{Step}
use Rattle.schedule_steps.specs.declared.peak.Peak.{Peak}
use Rattle.schedule_steps.specs.Judged.{is_step, missing, left_over}
use Rattle.step_judge.specs.declared.refusal.ScheduleRefusal.{ScheduleRefusal}
use Rattle.step_judge.specs.declared.refusal.ScheduleRefusal.TheVariants.{NoSuchStep, Repeated, TooEarly, Incomplete}

-- by the least earlier step that is not taken
abbrev pub too_early : Option Step → Result (Unit {0}) ScheduleRefusal
too_early None = Ok tt
too_early (Some t) = Err (TooEarly t)

-- Of a step, where m is taken: the plan hasn't it; else it was taken; else an earlier step isn't taken; else it is taken.
abbrev pub judged : Outline → (Step → Bool) → Step → Result (Unit {0}) ScheduleRefusal
judged o m s = cond (is_step o s) (cond (m s) (Err Repeated) (too_early (missing o m s))) (Err NoSuchStep)

-- by the least step that is not taken
abbrev pub incomplete : Option Step → Result (Unit {0}) ScheduleRefusal
incomplete None = Ok tt
incomplete (Some t) = Err (Incomplete t)

-- at the end, where m is taken
abbrev pub ended : Outline → (Step → Bool) → Result (Unit {0}) ScheduleRefusal
ended o m = incomplete (left_over o m)

-- the peak, unless a step is left
abbrev pub finished : Peak → Option Step → Result Peak ScheduleRefusal
finished k None = Ok k
finished k (Some t) = Err (Incomplete t)
