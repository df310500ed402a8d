-- What the steps of a schedule depend on: the items of the program and the places that its elements have in the plan.
use Rattle.std.specs.Prelude.{ℕ, Bool, ◌&&◌, ◌||◌, ◌==◌, nat_lt}

-- An element is named as the schedule names it: by its original number, or by its place on its rank.
pub record Outline : Type 0 where
  pub items : ℕ
  pub ranks : ℕ
  pub is_free : ℕ → Bool  -- item: its elements may overlap; any other item is one join
  pub sends : ℕ → ℕ → ℕ → Bool  -- item, sender, receiver: a message goes
  pub count : ℕ → ℕ → ℕ  -- item, rank: each element has a smaller number
  pub executes : ℕ → ℕ → ℕ → Bool  -- item, rank, element
  pub is_core : ℕ → ℕ → ℕ → Bool  -- item, rank, element: needs no message
  pub block : ℕ → ℕ → ℕ → ℕ  -- item, rank, element: the number of its block
  pub block_colour : ℕ → ℕ → ℕ → ℕ  -- item, rank, block
  pub colour : ℕ → ℕ → ℕ → ℕ  -- item, rank, element: its colour within its block

-- the rank runs the element in the item
abbrev pub runs : Outline → ℕ → ℕ → ℕ → Bool
runs o k r e = nat_lt e (o.count k r) && o.executes k r e

-- item, rank, two elements: the first must end before the second begins.
-- A lower block colour goes first, and within one block a lower colour.
abbrev pub by_colour : Outline → ℕ → ℕ → ℕ → ℕ → Bool
by_colour o k r e f =
    nat_lt (o.block_colour k r (o.block k r e)) (o.block_colour k r (o.block k r f))
    || ((o.block k r e == o.block k r f) && nat_lt (o.colour k r e) (o.colour k r f))
