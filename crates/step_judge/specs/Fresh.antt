-- Marks of a plan of which no step is taken.
use Rattle.std.specs.Prelude.{◌≡◌, ◌<◌, ◌≤◌, ◌^◌, ℕ, true, false, List, length, get_or}
use Rattle.schedule_steps.specs.Outline.{Outline, by_colour}
use Rattle.schedule_steps.specs.Firsts.{BlocksInOrder}
use Rattle.step_judge.specs.Run.{Run, begun_at, ended_at, core_at, lower}
use Rattle.step_judge.specs.Item.{Item, linked, sent, received, run_at}
use Rattle.step_judge.specs.Marked.{no_item}

-- item, rank: the places of the rank, none of them begun
pub record IsFreshRun (o : Outline) (k r : ℕ) (v : Run) : Type 0 where
  pub number : length v.begun ≡ o.count k r
  pub begun : (x : ℕ) → begun_at v x ≡ false
  pub ended : (x : ℕ) → ended_at v x ≡ false
  pub order : (x y : ℕ) → x < o.count k r → y < o.count k r → lower v x y ≡ by_colour o k r x y
  pub cores : (x : ℕ) → x < o.count k r → core_at v x ≡ o.is_core k r x

-- the messages and places of an item, nothing of it taken
pub record IsFreshItem (o : Outline) (k : ℕ) (w : Item) : Type 0 where
  pub frees : w.free ≡ o.is_free k
  pub open_join : w.joined ≡ false
  pub links : (s r : ℕ) → w.free ≡ true → s < o.ranks → r < o.ranks → linked w s r ≡ o.sends k s r
  pub ranked : (s r : ℕ) → linked w s r ≡ true → (s < o.ranks) × (r < o.ranks)
  pub unsent : (s r : ℕ) → sent w s r ≡ false
  pub unreceived : (s r : ℕ) → received w s r ≡ false
  pub unbegun : (r x : ℕ) → begun_at (run_at w r) x ≡ false
  pub unended : (r x : ℕ) → ended_at (run_at w r) x ≡ false
  pub count : w.free ≡ true → length w.ranks ≡ o.ranks
  pub runs : (r : ℕ) → w.free ≡ true → r < o.ranks → IsFreshRun o k r (run_at w r)

-- on so many ranks
pub record AreFresh (o : Outline) (n : ℕ) (ws : List Item) : Type 0 where
  pub ranks : n ≡ o.ranks
  pub some : 1 ≤ n
  pub few : length ws < 2 ^ 32
  pub items : length ws ≡ o.items
  pub each : (k : ℕ) → k < length ws → IsFreshItem o k (get_or ws k no_item)
  pub all : (k r x : ℕ) → o.executes k r x ≡ true
  pub in_order : (k r : ℕ) → BlocksInOrder o k r
