-- A program on ranks that run its chains with one exchange each: what a rank needs, and which elements it executes.
use Rattle.std.specs.Prelude.{ℕ, Bool, cond, nat_lt, Option}
use Rattle.op_num.specs.Reduction.{Reduction}
use Rattle.schedule_model.specs.Cells.{VarCell}
use Rattle.schedule_model.specs.Program.{Program}

-- F is the type of faults. Ranks are numbers, and elements go by their original numbers. A pair is a dat and an element of its set.
pub record Slicing (F : Type 0) : Type 0 where
  pub program : Program F
  pub reduces : ℕ → VarCell → Option Reduction  -- site: how its loop reduces into the variable
  pub ranks : ℕ
  pub owner : ℕ → ℕ → ℕ  -- set, element: its rank
  pub needs : ℕ → ℕ → ℕ → ℕ → Bool  -- item, rank, dat, element: the rank needs the pair before the item; it needs its own pairs always
  pub executes : ℕ → ℕ → ℕ → Bool  -- item, rank, element

-- the rank that owns the pair of a dat and an element; of what is no element of the dat's set, rank 0
abbrev pub pair_owner : {F : Type 0} → Slicing F → ℕ → ℕ → ℕ
pair_owner c d y = cond (nat_lt y (c.program.size (c.program.set_of d))) (c.owner (c.program.set_of d) y) 0
