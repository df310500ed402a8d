-- What is looked for where a step comes too early, or where steps are left.
use Rattle.std.specs.Prelude.{◌≡◌, ◌<◌, ◌⊎◌, ◌&&◌, ℕ, Bool, true, false, not, Option, Some, None}
use Rattle.schedule_steps.specs.Outline.{Outline, runs}
use Rattle.schedule_steps.specs.declared.step.Step.{Step}
use Rattle.schedule_steps.specs.declared.step.Step.TheVariants.{Begin}
use Rattle.schedule_steps.specs.Steps.{IsStep}
use Rattle.schedule_steps.specs.Alike.{AlikeOutlines}
use Rattle.schedule_steps.specs.Judged.{is_earlier}
use Rattle.schedule_steps.specs.Firsts.{goes_first, BlocksInOrder, meets}
use Rattle.step_judge.specs.Marked.{Marked, outline_of, taken}

-- the step is not taken and, where a later step is given, has to come before it
abbrev pub wanted : Marked → Option Step → Step → Bool
wanted v None t = not (taken v t)
wanted v (Some s) t = is_earlier (outline_of v) t s && not (taken v t)

-- the later step, where one is given, is one of the plan's
abbrev pub IsPlanned : Outline → Option Step → Type 0
IsPlanned o None = Unit {0}
IsPlanned o (Some s) = IsStep o s

-- the rank runs the element, where one is given
abbrev pub IsPlace : Outline → ℕ → ℕ → Option ℕ → Type 0
IsPlace o k r None = Unit {0}
IsPlace o k r (Some x) = IsStep o (Begin k r x)

-- the marks are those of a plan with these steps, whose blocks are in order
pub record AreMarksOf (o : Outline) (v : Marked) : Type 0 where
  pub alike : AlikeOutlines (outline_of v) o
  pub in_order : (k r : ℕ) → BlocksInOrder o k r

-- item, rank, number: of the elements below the number none meets the test, or this is the first of those that do
abbrev pub FirstBelow : Outline → (Step → Bool) → ℕ → ℕ → ℕ → Option ℕ → Type 0
FirstBelow o f k r n None = (y : ℕ) → y < n → runs o k r y ≡ true → meets f k r y ≡ false
FirstBelow o f k r n (Some x) =
    (x < n)
    × (runs o k r x ≡ true)
    × (meets f k r x ≡ true)
    × ((y : ℕ) → y < n → runs o k r y ≡ true → meets f k r y ≡ true → (y ≡ x) ⊎ (goes_first o k r x y ≡ true))
