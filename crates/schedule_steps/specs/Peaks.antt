-- The most that a list of steps has open and under way at once, and how many steps a plan has.
use Rattle.std.specs.Prelude.{◌≡◌, ◌+◌, ◌-◌, ℕ, suc, max, List, [], ◌∷◌, length}
use Rattle.schedule_steps.specs.declared.step.Step.{Step}
use Rattle.schedule_steps.specs.declared.step.Step.TheVariants.{Send, Recv, Begin, End}
use Rattle.schedule_steps.specs.declared.peak.Peak.{Peak}
use Rattle.schedule_steps.specs.Outline.{Outline}
use Rattle.schedule_steps.specs.Standard.{standard}

-- how many elements are open, after one more step
abbrev pub open_step : Step → ℕ → ℕ
open_step (Begin k r e) n = suc n
open_step (End k r e) n = n - 1
open_step _ n = n

-- how many cells are under way, after one more step; a message has so many by its item, sender and receiver
abbrev pub mail_step : (ℕ → ℕ → ℕ → ℕ) → Step → ℕ → ℕ
mail_step cells (Send k s r) n = n + cells k s r
mail_step cells (Recv k r s) n = n - cells k s r
mail_step cells _ n = n

-- a count after all steps of the list, from n on
abbrev pub count_after : (Step → ℕ → ℕ) → ℕ → List Step → ℕ
count_after f n [] = n
count_after f n (s ∷ l) = count_after f (f s n) l

-- the greatest value of a count, before the list and after each step
abbrev pub greatest : (Step → ℕ → ℕ) → ℕ → List Step → ℕ
greatest f n [] = n
greatest f n (s ∷ l) = max n (greatest f (f s n) l)

-- the peak of the list
pub record IsPeak (cells : ℕ → ℕ → ℕ → ℕ) (l : List Step) (k : Peak) : Type 0 where
  pub frames : k.frames ≡ greatest open_step 0 l
  pub mail : k.mail ≡ greatest (mail_step cells) 0 l

-- how many steps the plan has
abbrev pub step_count : Outline → ℕ
step_count o = length (standard o 1)
