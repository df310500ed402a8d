-- A run that stops before an item, and one that goes on from the state there, are together the whole run.
use Rattle.std.specs.Prelude.{◌≡◌, ℕ, ◌<◌, ◌≤◌, ◌⊎◌, false, List, [], ◌++◌, Some, Ok}
use Rattle.kernel_model.specs.declared.types.faults.KernelFault.{KernelFault}
use Rattle.schedule_model.specs.Sequential.{Stop}
use Rattle.op_outside.specs.Outside.{Files}
use Rattle.checkpoint.specs.Reading.{IsSplit}
use Rattle.command_words.specs.Lines.{Answer, done, faulted}
use Rattle.command_words.specs.Words.{RunsPlan, Stretch, Whole, Before, From, Options, InFiles, OnPlan, WordsAre}
use Rattle.answers.specs.Answers.{Answers}
use Rattle.answers.specs.Endings.{IsWritten}

-- ---- runs

-- The words ask for a run of these items of the program in these files, with any other options; and this is what they are answered,
-- where nothing is refused before the run.
pub record IsRun (source mesh : List ℕ) (stretch : Stretch) (files : Files) (a : Answer) : Type 0 where
  pub words : List (List ℕ)
  pub options : Options
  pub asks : WordsAre words (Ok (OnPlan RunsPlan options (InFiles source mesh)))
  pub items : options.stretch ≡ stretch
  pub answers : Answers words files a
  pub ran : IsWritten a

-- This is what was printed. Behind it stands a dump where the options ask for one, and the run has no fault.
pub record Printed (o : Options) (a : Answer) (bytes : List ℕ) : Type 0 where
  pub dump : List ℕ
  pub out : a.out ≡ bytes ++ dump
  pub none : (o.dumps ≡ false) ⊎ (a.status ≡ 9) → dump ≡ []

-- the run stopped before item k, and so did the one that was to stop there: with its status, its bytes and its line
pub record StopBefore (k : ℕ) (whole head : Answer) : Type 0 where
  pub bytes : List ℕ
  pub fault : Stop KernelFault
  pub before : fault.item < k
  pub whole_is : whole ≡ faulted bytes fault
  pub head_is : head ≡ faulted bytes fault

-- the run has no fault, or at an item from k on
abbrev pub ComesTo : (k : ℕ) → Answer → Type 0
ComesTo k a = (a.status ≡ 0) ⊎ ((bytes : List ℕ) × (fault : Stop KernelFault) × (k ≤ fault.item) × (a ≡ faulted bytes fault))

-- what stands before the text of a state, and what is printed from there on, are what the whole run printed; and both stopped at one place
-- by one fault, or neither did
pub record GoesOn (before : List ℕ) (o : Options) (whole : Answer) (p : Options) (rest : Answer) : Type 0 where
  pub after : List ℕ
  pub printed : Printed o whole (before ++ after)
  pub printed_after : Printed p rest after
  pub status : rest.status ≡ whole.status
  pub line : rest.line ≡ whole.line

-- The run came to item k. The other stopped there, and wrote the text of the state behind what it printed; each run that goes on from a
-- file that holds what it wrote is the rest.
pub record CutAt (k : ℕ) (source mesh : List ℕ) (files : Files) (o : Options) (whole head : Answer) : Type 0 where
  pub comes : ComesTo k whole
  pub before : List ℕ
  pub text : List ℕ
  pub split : IsSplit head.out before text
  pub head_is : head ≡ done head.out
  pub rest :
      (name : List ℕ) (others : Files) (a : Answer)
      → others source ≡ files source
      → others mesh ≡ files mesh
      → others name ≡ Some head.out
      → (r : IsRun source mesh (From name) others a)
      → GoesOn before o whole r.options a

-- ---- the law

-- a whole run, and one that stops before item k, with any options on either side: they stop alike before it, or the second is cut there
abbrev pub RestartsAreWhole : Type 0
RestartsAreWhole =
    (k : ℕ) (source mesh : List ℕ) (files : Files) (whole head : Answer)
    → (run : IsRun source mesh Whole files whole)
    → IsRun source mesh (Before k) files head
    → StopBefore k whole head ⊎ CutAt k source mesh files run.options whole head
