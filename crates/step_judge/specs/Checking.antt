-- A schedule that is taken step by step: which steps are taken, and what is open and under way.
use Rattle.std.specs.Prelude.{◌≡◌, ◌<◌, ◌≤◌, ◌+◌, ◌*◌, ◌^◌, ℕ, Bool, true, not, List, [], ◌∷◌, slice_index, slice_index_or}
use Rattle.schedule_steps.specs.declared.step.Step.{Step}
use Rattle.schedule_steps.specs.declared.step.Step.TheVariants.{Send, Recv}
use Rattle.schedule_steps.specs.Steps.{has}
use Rattle.schedule_steps.specs.Standard.{one_if}
use Rattle.schedule_steps.specs.Judged.{is_step}
use Rattle.step_judge.specs.declared.marks.load.Load.{Load}
use Rattle.step_judge.specs.Item.{place_of}
use Rattle.step_judge.specs.Load.{loaded}
use Rattle.step_judge.specs.Marked.{Marked, item_at, outline_of, taken, TakesOne}

-- which steps are taken, how many cells each message has, and what is open and under way
pub record Checking : Type 0 where
  pub marks : Marked
  pub cells : List (List ℕ)  -- item, message: how many cells it has
  pub load : Load

-- item, sender, receiver: how many cells the message has
abbrev pub cells_in : List (List ℕ) → Marked → ℕ → ℕ → ℕ → ℕ
cells_in cells v k s r = slice_index (slice_index_or cells k []) (place_of (item_at v k) s r)

-- item, sender, receiver: how many cells the message has
abbrev pub cells_of : Checking → ℕ → ℕ → ℕ → ℕ
cells_of c = cells_in c.cells c.marks

-- the cells of a step's message
abbrev pub step_cells : (ℕ → ℕ → ℕ → ℕ) → Step → ℕ
step_cells f (Send k s r) = f k s r
step_cells f (Recv k r s) = f k s r
step_cells f t = 0

-- one step more is taken and counted
pub record TakesStep (c d : Checking) (s : Step) : Type 0 where
  pub marks : TakesOne c.marks d.marks s
  pub cells : d.cells ≡ c.cells
  pub load : d.load ≡ loaded (cells_of c) s c.load

-- how many steps of the list are not taken
abbrev pub untaken : (Step → Bool) → List Step → ℕ
untaken m [] = 0
untaken m (s ∷ l) = one_if (not (m s)) + untaken m l

-- The counts stay within their types: each step that isn't taken opens one element at most, and sends the most that a message has.
pub record HasRoom (v : Marked) (cells : List (List ℕ)) (open_elements under_way : ℕ) : Type 0 where
  pub all : List Step
  pub most : ℕ
  pub whole : (s : Step) → is_step (outline_of v) s ≡ true → has all s ≡ true
  pub messages : (k s r : ℕ) → cells_in cells v k s r ≤ most
  pub frames : open_elements + untaken (taken v) all < 2 ^ 32
  pub mail : under_way + most * untaken (taken v) all < 2 ^ 64
