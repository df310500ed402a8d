-- The places of a rank in one item, none of them begun.
use Rattle.std.specs.Prelude.{◌≡◌, ◌<◌, ◌*◌, ◌↔◌, ℕ, Bool, false, List, [], length, map, slice_index, slice_index_or}
use Rattle.colouring.specs.declared.types.Colours.{Colours}
use Rattle.loop_plan.specs.Values.{SitePlanValue}
use Rattle.step_judge.specs.NewRun.{ends_before}
use Rattle.step_judge.specs.Run.{Run, begun_at, ended_at, core_at, lower}

-- with these colours, in blocks of this size; a place that the list of core elements doesn't have is not core
pub record AreNewPlaces (size : ℕ) (blocks inner : List ℕ) (core : List Bool) (v : Run) : Type 0 where
  pub number : length v.begun ≡ length inner
  pub begun : (x : ℕ) → begun_at v x ≡ false
  pub ended : (x : ℕ) → ended_at v x ≡ false
  pub order : (x y : ℕ) → x < length inner → y < length inner → lower v x y ≡ ends_before size blocks inner x y
  pub cores : (x : ℕ) → x < length inner → core_at v x ≡ slice_index_or core x false

-- the colours of a rank's blocks
abbrev pub blocks_of : List Colours → ℕ → List ℕ
blocks_of cs r = slice_index_or (map (λ (c : Colours). c.blocks.items) cs) r []

-- the colours of a rank's places
abbrev pub inner_of : List Colours → ℕ → List ℕ
inner_of cs r = slice_index_or (map (λ (c : Colours). c.inner.items) cs) r []

-- by rank, of so many: a colour for each place and each block
pub record AreColoured (size n : ℕ) (l : SitePlanValue) : Type 0 where
  pub places_count : length l.places ≡ n
  pub colours_count : length l.colours ≡ n
  pub inner : (r : ℕ) → r < n → length (inner_of l.colours r) ≡ slice_index l.places r
  pub blocks : (r a : ℕ) → r < n → (a < length (blocks_of l.colours r)) ↔ (a * size < slice_index l.places r)
