-- What the touch of a cell says of the arguments by which an element reaches it.
use Rattle.std.specs.Prelude.{◌≡◌, ◌<◌, ℕ, Bool, true, false}
use Rattle.schedule_model.specs.Cells.{Cell}
use Rattle.schedule_model.specs.Effects.{Touch, Untouched, Read, Updated, Written, Merged, Mixed}
use Rattle.op_num.specs.Access.{Access, OpRead, OpWrite, OpReduce}
use Rattle.schedule_model.specs.Arguments.{Argument, access_of, reading, Entries, reaches}

-- OP_READ, OP_WRITE or OP_RW
abbrev pub settling : Access → Bool
settling (OpReduce o) = false
settling _ = true

module _ (entry : Entries) (dim width : ℕ → ℕ) (arg : ℕ → Argument) (n e : ℕ) (c : Cell) where
  -- each argument that reaches the cell has such an access
  abbrev pub All : (Access → Type 0) → Type 0
  All P = (a : ℕ) → a < n → reaches entry dim width e (arg a) c ≡ true → P (access_of (arg a))

  -- some argument that reaches the cell has such an access
  abbrev pub SomeHas : (Access → Type 0) → Type 0
  SomeHas P = (a : ℕ) × (a < n) × (reaches entry dim width e (arg a) c ≡ true) × P (access_of (arg a))

  -- by the first n arguments
  abbrev pub Tells : Touch → Type 0
  Tells Untouched = All (λ x. ⊥)
  Tells Read = All (λ x. x ≡ OpRead)
  Tells Updated = SomeHas (λ x. reading x ≡ true)
  Tells Written = SomeHas (λ x. x ≡ OpWrite) × All (λ x. reading x ≡ false)
  Tells (Merged o) = All (λ x. x ≡ OpReduce o)
  Tells Mixed = All (λ x. settling x ≡ false)
