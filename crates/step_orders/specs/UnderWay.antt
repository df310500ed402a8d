-- The next join, and the sends that are taken, of a drawn order under way.
use Rattle.std.specs.Prelude.{◌≡◌, ◌<◌, ◌≤◌, ◌+◌, ◌==◌, ◌&&◌, nat_lt, ℕ, Bool, true, false, cond, ◌^◌, List, [], ◌++◌, Vec, Option, length, map, slice_index_or}
use Rattle.std.specs.declared.alloc.Global.{Global}
use Rattle.schedule_steps.specs.Outline.{Outline}
use Rattle.schedule_steps.specs.declared.step.Step.{Step}
use Rattle.schedule_steps.specs.declared.step.Step.TheVariants.{Send, Join}
use Rattle.schedule_steps.specs.Steps.{IsStep, Accepted, has}
use Rattle.schedule_steps.specs.Drawn.{DrawnFrom}
use Rattle.step_orders.specs.Rests.{rests, sent_below}
use Rattle.step_orders.specs.ToCome.{to_come}

-- the first item from `from` on that is a join, or the number of items
pub record IsNextJoin (o : Outline) (from join : ℕ) : Type 0 where
  pub after : from ≤ join
  pub within : join ≤ o.items
  pub free : (j : ℕ) → from ≤ j → j < join → o.is_free j ≡ true
  pub at : join < o.items → o.is_free join ≡ false

-- by sender and receiver, an item behind the last whose message is sent, after one more step
abbrev pub sent_after : (ℕ → ℕ → ℕ) → Step → ℕ → ℕ → ℕ
sent_after below (Send k a b) s r = cond ((s == a) && (r == b)) (k + 1) (below s r)
sent_after below t s r = below s r

-- there is room for the step, if it is a send
abbrev pub HasRoom : List (Vec ℕ Global) → Step → Type 0
HasRoom rows (Send k s r) =
    (s < length rows) × (r < length (slice_index_or (map (λ (v : Vec ℕ Global). v.items) rows) s [])) × (k + 1 < 2 ^ 32)
HasRoom rows t = Unit {0}

-- so many rows, and so many numbers in each
pub record IsTable (n : ℕ) (rows : List (Vec ℕ Global)) : Type 0 where
  pub count : length rows ≡ n
  pub wide : (s : ℕ) → s < n → length (slice_index_or (map (λ (v : Vec ℕ Global). v.items) rows) s []) ≡ n

-- the step is one rank's: it is no join
abbrev pub is_rank_step : Step → Bool
is_rank_step (Join k) = false
is_rank_step t = true

-- A list is taken and another is coming, this is left of each rank, x is the number drawn last, `join` the next join, and the messages of
-- items below these are sent.
pub record IsUnderWay (o : Outline) (list coming : List Step) (rest : ℕ → List Step) (x join : ℕ) (below : ℕ → ℕ → ℕ) : Type 0 where
  pub accepted : Accepted o (list ++ coming)
  pub turns : DrawnFrom o rest (has list) x coming
  pub planned : (r : ℕ)
      → r < o.ranks
      → (t : Step)
      → has (rest r) t ≡ true
      → IsStep o t × (is_rank_step t ≡ true)
  pub joins : (j : ℕ) → j < o.items → o.is_free j ≡ false → has list (Join j) ≡ nat_lt j join
  pub within : join ≤ o.items
  pub at : join < o.items → o.is_free join ≡ false
  pub sends : (k s r : ℕ) → IsStep o (Send k s r) → has list (Send k s r) ≡ nat_lt k (below s r)

-- By rank a next step and the steps behind it, by sender and receiver an item behind the last whose message is sent, room for so many
-- numbers, the number drawn last, and the next join: what a drawn order keeps.
pub record IsKept
    (o : Outline)
    (heads : List (Option Step))
    (tails : List (List Step))
    (rows : List (Vec ℕ Global))
    (room x join : ℕ) : Type 0 where
  pub few : o.ranks < 2 ^ 32
  pub head_count : length heads ≡ o.ranks
  pub tail_count : length tails ≡ o.ranks
  pub table : IsTable o.ranks rows
  pub room_count : room ≡ o.ranks
  pub list : List Step
  pub coming : List Step
  pub way : IsUnderWay o list coming (rests heads tails) x join (sent_below rows)

-- the steps that it still takes
abbrev pub left_in : Outline → List (Option Step) → List (List Step) → List (Vec ℕ Global) → ℕ → ℕ → List Step
left_in o heads tails rows x join = to_come o (rests heads tails) x join (sent_below rows)
