-- What is judged of some of a text's lines: they fit what is awaited, or one is the first that is refused.
use Rattle.std.specs.Prelude.{◌≡◌, ℕ, suc, ℤ, ◌+◌, Bool, true, false, List, ◌++◌, Result, Ok, Err, length, codes}
use Rattle.std.specs.List.{flat_map}
use Rattle.op_num.specs.CutLines.{Unread}
use Rattle.bound_program.specs.Values.{BoundValue}
use Rattle.checkpoint.specs.Cut.{StateValue, HasShape}
use Rattle.checkpoint.specs.declared.state_texts.refusals.StateRefusal.{StateRefusal}
use Rattle.checkpoint.specs.declared.state_texts.refusals.StateRefusal.TheVariants as refusal
use Rattle.checkpoint.specs.Reading.{Awaited, all, awaited, HasValues, AllFit, RefusedAmong, Refused}

module _ (b : BoundValue) (k : ℕ) where
  -- these awaited lines are taken, with these values
  pub record FitsAmong (xs : List Awaited) (old new : Unread) (zs : List ℤ) : Type 0 where
    pub lines : List (List ℕ)
    pub split : old.rest ≡ all lines ++ new.rest
    pub fit : AllFit b k xs lines zs
    pub taken : new.taken ≡ old.taken + length lines

  -- one of them is the first that is refused: by this number, at this line
  abbrev pub RefusedAt : List Awaited → Unread → (number line : ℕ) → Type 0
  RefusedAt xs old number line = (before : ℕ) × (line ≡ old.taken + suc before) × RefusedAmong b k xs old.rest number before

  -- a refusal is that of the first of them that is refused
  abbrev pub RefusesAmong : List Awaited → Unread → StateRefusal → Type 0
  RefusesAmong xs old e = Refused (RefusedAt xs old) e

  -- the lines are taken, or one of them is refused
  abbrev pub JudgesAmong : {X : Type 0} → List Awaited → Unread → Unread → (X → List ℤ) → Result X StateRefusal → Type 0
  JudgesAmong xs old new values (Ok x) = FitsAmong xs old new (values x)
  JudgesAmong xs old new values (Err e) = RefusesAmong xs old e

  -- the lines are taken, and their values pushed behind others
  pub record PushesAmong (xs : List Awaited) (old new : Unread) (zs ws : List ℤ) : Type 0 where
    pub more : List ℤ
    pub pushed : ws ≡ zs ++ more
    pub fits : FitsAmong xs old new more

  -- the lines are taken and their values pushed, or one of them is refused
  abbrev pub PushJudges : {X : Type 0} → List Awaited → Unread → Unread → (zs ws : List ℤ) → Result X StateRefusal → Type 0
  PushJudges xs old new zs ws (Ok x) = PushesAmong xs old new zs ws
  PushJudges xs old new zs ws (Err e) = RefusesAmong xs old e

-- the line has these values behind the others, so many; or it has other values
abbrev pub ToldIs : (line : List ℕ) (count : ℕ) (zs ws : List ℤ) → Bool → Type 0
ToldIs line n zs ws true = (more : List ℤ) × (ws ≡ zs ++ more) × HasValues n (line ++ codes "\n") more
ToldIs line n zs ws false = (more : List ℤ) → HasValues n (line ++ codes "\n") more → ⊥

module _ (b : BoundValue) where
  -- the text behind the mark says this state
  pub record TextSays (text : List ℕ) (s : StateValue) : Type 0 where
    pub lines : List (List ℕ)
    pub whole : text ≡ all lines
    pub fit : AllFit b s.item (awaited b) lines (flat_map (λ z. z) s.vars ++ flat_map (λ z. z) s.dats)
    pub shape : HasShape b s

  -- the text says no state: its first line that is refused, from 1
  abbrev pub TextSaysNone : List ℕ → (number line : ℕ) → Type 0
  TextSaysNone text number line = (k : ℕ) × (before : ℕ) × (line ≡ suc before) × RefusedAmong b k (awaited b) text number before

-- the refusal of a line that stands behind so many others
abbrev pub behind : ℕ → StateRefusal → StateRefusal
behind n (refusal.Header line) = refusal.Header (line + n)
behind n (refusal.Item line) = refusal.Item (line + n)
behind n (refusal.Shape line) = refusal.Shape (line + n)
behind n (refusal.Value line) = refusal.Value (line + n)
behind n (refusal.End line) = refusal.End (line + n)
behind n refusal.OutOfMemory = refusal.OutOfMemory

-- the line that a refusal names
abbrev pub line_in : StateRefusal → ℕ
line_in (refusal.Header line) = line
line_in (refusal.Item line) = line
line_in (refusal.Shape line) = line
line_in (refusal.Value line) = line
line_in (refusal.End line) = line
line_in refusal.OutOfMemory = 0
