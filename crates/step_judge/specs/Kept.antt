-- What holds of the marks of a plan.
use Rattle.std.specs.Prelude.{◌≡◌, ◌<◌, ◌≤◌, ◌^◌, ℕ, true, List, get_or, length}
use Rattle.step_judge.specs.Item.{linked}
use Rattle.step_judge.specs.Marked.{Marked, item_at, Stands}

-- there is a rank, items are few, messages go between ranks, and each rank has its places in each Free item
pub record LaidOut (v : Marked) : Type 0 where
  pub some : 1 ≤ v.ranks
  pub few : length v.items < 2 ^ 32
  pub ranked : (k s r : ℕ) → linked (item_at v k) s r ≡ true → (s < v.ranks) × (r < v.ranks)
  pub runs : (k : ℕ) → k < length v.items → (item_at v k).free ≡ true → length (item_at v k).ranks ≡ v.ranks

-- marks are laid out, and each rank's pointer has passed only items that are done for the rank
pub record Whole (v : Marked) (at : List ℕ) : Type 0 where
  pub laid : LaidOut v
  pub each_rank : length at ≡ v.ranks
  pub at_in : (x : ℕ) → x < v.ranks → get_or at x 0 ≤ length v.items
  pub at_stands : (x : ℕ) → x < v.ranks → Stands v x (get_or at x 0)
