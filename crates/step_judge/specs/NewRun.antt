-- Places of which none has begun.
use Rattle.std.specs.Prelude.{◌≡◌, ◌<◌, ◌/◌, ◌==◌, ◌&&◌, ◌||◌, nat_lt, ℕ, Bool, false, List, get_or, length, replicate}
use Rattle.step_judge.specs.Marks.{Marks}
use Rattle.step_judge.specs.Ranked.{Ranked}
use Rattle.step_judge.specs.Run.{Run, lower, ended_at}

-- tasks with these colours, none of them done
pub record IsFresh (colours : List ℕ) (m : Marks) : Type 0 where
  pub order : Ranked colours m.of
  pub done : m.done ≡ replicate (length colours) false

-- In blocks of this size, with these colours of the blocks and of the places within them, the first place has to end before the
-- second begins.
abbrev pub ends_before : ℕ → List ℕ → List ℕ → ℕ → ℕ → Bool
ends_before size blocks inner q p =
    nat_lt (get_or blocks (q / size) 0) (get_or blocks (p / size) 0)
    || ((q / size == p / size) && nat_lt (get_or inner q 0) (get_or inner p 0))

-- a place for each inner colour, none of them begun
pub record IsNewRun (size : ℕ) (blocks inner : List ℕ) (core : List Bool) (v : Run) : Type 0 where
  pub sized : v.size ≡ size
  pub begun : v.begun ≡ replicate (length inner) false
  pub cores : v.core ≡ core
  pub ended : (p : ℕ) → ended_at v p ≡ false
  pub order : (q p : ℕ) → q < length inner → p < length inner → lower v q p ≡ ends_before size blocks inner q p
