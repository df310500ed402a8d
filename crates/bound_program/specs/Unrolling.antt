-- The steps of the program, and what unrolling some of them leaves.
use Rattle.std.specs.Prelude.{◌≡◌, ℕ, ℤ, ◌⊎◌, List, [], ◌∷◌, ◌++◌, map, Option, Some, None, Result, Ok, Err, int_lt, if◌then◌else◌}
use Rattle.bound_program.specs.declared.refusals.refusals.BindRefusal.{BindRefusal}
use Rattle.bound_program.specs.declared.refusals.refusals.BindRefusal.TheVariants.{OutOfMemory}
use Rattle.bound_program.specs.declared.trace.steps.Asked.{Asked as AskedCode}
use Rattle.bound_program.specs.declared.trace.steps.Step.{Step as StepCode, Row_of-Step, end_of-Step, more_of-Step}
use Rattle.bound_program.specs.declared.trace.steps.Step.TheVariants as r
use Rattle.bound_program.specs.declared.trace.steps.Told.{Told}
use Rattle.bound_program.specs.declared.trace.steps.Unrolled.{Unrolled}
use Rattle.bound_program.specs.declared.trace.unroll.Goes.{Goes}
use Rattle.bound_program.specs.declared.trace.unroll.Goes.TheVariants as goes
use Rattle.bound_program.specs.declared.trace.unroll.LoopForm.{LoopForm}
use Rattle.bound_program.specs.declared.trace.unroll.LoopForm.TheVariants as form
use Rattle.bound_program.specs.declared.sites.Class.{Class}
use Rattle.bound_program.specs.declared.sites.Class.TheVariants as class
use Rattle.kernel_model.specs.View.{rexpr_of}
use Rattle.bound_program.specs.Values.{item_of, SiteValue, Free, Reduce, Ordered}
use Rattle.bound_program.specs.Steps.{Asked, Step, Do, Loop, Fix, Block, Choose, Repeat, Steps, NoStep, MoreStep}
use Rattle.bound_program.specs.Refusals.{Judged}
use Rattle.bound_program.specs.Naming.{named_act_of}
use Rattle.bound_program.specs.Trace.{Event, Does}
use Rattle.bound_program.specs.Classes.{reduces}
use Rattle.bound_program.specs.Limited.{ToldValue, UnrolledValue, before, unrolled}

-- an expression that must be known, as a tree
abbrev pub asked_of : AskedCode → Asked
asked_of a = record { value = rexpr_of a.value; at = a.at }

abbrev mutual
  -- a step as the definitions have it
  pub step_of : StepCode → Step
  step_of (r.Do a) = Do (named_act_of a)
  step_of (r.Loop n) = Loop n
  step_of (r.Fix e v) = Fix (asked_of e) v
  step_of (r.Block' shape row) = Block (steps_of_row row)
  step_of (r.Choose' e p s q t) = Choose (asked_of e) (step_of s) (step_of t)
  step_of (r.Repeat' from to p s) = Repeat (asked_of from) (asked_of to) (step_of s)

  -- the steps of a block
  pub steps_of_row : {m : _} → Row_of-Step m → Steps
  steps_of_row end_of-Step = NoStep
  steps_of_row (more_of-Step s rest) = MoreStep (step_of s) (steps_of_row rest)

-- the steps of a vector
abbrev pub steps_of : List StepCode → Steps
steps_of [] = NoStep
steps_of (s ∷ ss) = MoreStep (step_of s) (steps_of ss)

-- a told value with the number of its variable
abbrev pub told_of : Told → ToldValue
told_of t = record { var = t.var; value = t.value }

-- the items so far and the values told, as lists
abbrev pub seen : Unrolled → UnrolledValue
seen u = record { items = map item_of u.items.items; values = map told_of u.values.items }

-- whether a turn follows, by the bound's value
abbrev pub goes_by : Option ℤ → ℤ → Goes
goes_by None i = goes.Stops
goes_by (Some past) i = if int_lt i past then goes.On else goes.Ends

-- how a loop runs
abbrev pub loop_form : SiteValue → LoopForm
loop_form s = by_class s.class
  where
    by_class : Class → LoopForm
    by_class class.Ordered = form.Ordered
    by_class class.Free = if reduces s.args then form.Reducing else form.Free

-- the items of a loop that runs so
abbrev pub form_events : ℕ → LoopForm → List Event
form_events n form.Ordered = Does (Ordered n) ∷ []
form_events n form.Free = Does (Free n) ∷ []
form_events n form.Reducing = Does (Free n) ∷ Does (Reduce n) ∷ []

-- Behind u, these events leave w, whatever follows them; or they stop.
abbrev pub Leaves : {X : Type 0} → Unrolled → List Event → Result X BindRefusal → Unrolled → Type 0
Leaves u es (Ok x) w = (rest : List Event) → before (seen u) (unrolled u.left (es ++ rest)) ≡ before (seen w) (unrolled w.left rest)
Leaves u es (Err e) w = (e ≡ OutOfMemory) ⊎ ((rest : List Event) → before (seen u) (unrolled u.left (es ++ rest)) ≡ Err e)

-- what a function answered is this, unless memory ran out
abbrev pub Gives : Result Unrolled BindRefusal → Judged UnrolledValue → Type 0
Gives (Ok u) w = w ≡ Ok (seen u)
Gives (Err e) w = (e ≡ OutOfMemory) ⊎ (w ≡ Err e)
