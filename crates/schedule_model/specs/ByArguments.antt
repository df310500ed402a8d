-- Independence of a kernel's runs, said of the arguments that reach a cell.
use Rattle.std.specs.Prelude.{◌≡◌, ◌<◌, ℕ, ℤ, Bool, true, false, cond}
use Rattle.op_num.specs.Reduction.{Reduction, merged}
use Rattle.schedule_model.specs.Cells.{Cell, Store, InRange}
use Rattle.schedule_model.specs.Effects.{Ran, Faulted, Finished, Touch, Read}
use Rattle.op_num.specs.Access.{OpRead, OpReduce}
use Rattle.schedule_model.specs.Arguments.{Argument, access_of, reading, Entries, reaches, touch_by}
use Rattle.schedule_model.specs.Tells.{settling, All, SomeHas}

module _ (entry : Entries) (dim width : ℕ → ℕ) (arg : ℕ → Argument) (n e : ℕ) where
  -- one run made t of s, the other u of w
  pub record SameChanges (s w t u : Store) : Type 0 where
    -- a cell that no argument reaches, or OP_READ alone, stays
    pub stays : (c : Cell) → All entry dim width arg n e c (λ x. x ≡ OpRead) → (t c ≡ s c) × (u c ≡ w c)
    -- one that an OP_READ, OP_WRITE or OP_RW argument reaches becomes equal
    pub settles : (c : Cell) → SomeHas entry dim width arg n e c (λ x. settling x ≡ true) → t c ≡ u c
    -- one into which one reduction alone merges gets the same amount
    pub merges : (c : Cell) (o : Reduction)
        → All entry dim width arg n e c (λ x. x ≡ OpReduce o)
        → (x : ℤ) × (t c ≡ merged o (s c) x) × (u c ≡ merged o (w c) x)
    -- one into which reductions alone merge becomes equal where it was equal
    pub mixes : (c : Cell) → All entry dim width arg n e c (λ x. settling x ≡ false) → s c ≡ w c → t c ≡ u c

  -- both runs have the same fault, or make the same changes
  abbrev pub SameRuns : {F : Type 0} → Store → Store → Ran F → Ran F → Type 0
  SameRuns s w (Faulted f) (Faulted g) = f ≡ g
  SameRuns s w (Finished t) (Finished u) = SameChanges s w t u
  SameRuns s w (Faulted f) (Finished u) = ⊥
  SameRuns s w (Finished t) (Faulted g) = ⊥

  -- stores that agree where OP_READ and OP_RW arguments reach, and on the constants, give the same fault or none and the same changes
  abbrev pub IndependentBy : {F : Type 0} → (Cell → Bool) → (Store → Ran F) → Type 0
  IndependentBy is_constant run =
      (s w : Store) → InRange s → InRange w
      → ((c : Cell) (a : ℕ) → a < n → reaches entry dim width e (arg a) c ≡ true → reading (access_of (arg a)) ≡ true → s c ≡ w c)
      → ((c : Cell) → is_constant c ≡ true → s c ≡ w c)
      → SameRuns s w (run s) (run w)

  -- constants are read, if an argument reaches them at all
  abbrev pub ReadConstants : (Cell → Bool) → Type 0
  ReadConstants is_constant = (c : Cell) → is_constant c ≡ true → All entry dim width arg n e c (λ x. x ≡ OpRead)

  -- the touch of a cell by the arguments, where constants are read
  abbrev pub touch_with : (Cell → Bool) → Cell → Touch
  touch_with is_constant c = cond (is_constant c) Read (touch_by entry dim width arg n e c)
