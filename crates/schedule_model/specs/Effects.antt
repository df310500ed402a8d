-- What one run of a kernel may do to a cell, and the law of independence of its runs on two stores.
use Rattle.std.specs.Prelude.{◌≡◌, ℤ, Bool, true, false, Option, Some, None}
use Rattle.op_num.specs.Reduction.{Reduction, unit_of, merged}
use Rattle.schedule_model.specs.Cells.{Cell, Store, InRange, with_cell}

-- the first fault of a run, or the store after it
pub data Ran (F : Type 0) : Type 0 where
  Faulted : F → Ran F
  Finished : Store → Ran F

-- by which arguments an element reaches a cell
pub data Touch : Type 0 where
  Untouched : Touch
  Read : Touch  -- OP_READ alone, or it belongs to a constant
  Updated : Touch  -- OP_READ or OP_RW, and one that isn't OP_READ
  Written : Touch  -- OP_WRITE, with neither OP_READ nor OP_RW
  Merged : Reduction → Touch  -- one of OP_INC, OP_MIN and OP_MAX alone
  Mixed : Touch  -- at least two of these, and no other

-- a run's course may depend on the cell's value
abbrev pub is_read : Touch → Bool
is_read Read = true
is_read Updated = true
is_read _ = false

-- a run may change the cell
abbrev pub is_modified : Touch → Bool
is_modified Untouched = false
is_modified Read = false
is_modified _ = true

-- one run made t of a in the cell, the other made u of b
abbrev pub CellAlike : Touch → ℤ → ℤ → ℤ → ℤ → Type 0
CellAlike Untouched a t b u = (t ≡ a) × (u ≡ b)
CellAlike Read a t b u = (t ≡ a) × (u ≡ b)
CellAlike Updated a t b u = t ≡ u
CellAlike Written a t b u = t ≡ u
CellAlike (Merged o) a t b u = (x : ℤ) × (t ≡ merged o a x) × (u ≡ merged o b x)
CellAlike Mixed a t b u = a ≡ b → t ≡ u

-- both runs have the same fault, or both finish and did alike to each cell
abbrev pub Alike : {F : Type 0} → (Cell → Touch) → Store → Store → Ran F → Ran F → Type 0
Alike touch s w (Faulted f) (Faulted g) = f ≡ g
Alike touch s w (Finished t) (Finished u) = (c : Cell) → CellAlike (touch c) (s c) (t c) (w c) (u c)
Alike touch s w (Faulted f) (Finished u) = ⊥
Alike touch s w (Finished t) (Faulted g) = ⊥

-- independence: stores that agree on the cells that are read give alike runs
abbrev pub Independent : {F : Type 0} → (Store → Ran F) → (Cell → Touch) → Type 0
Independent run touch =
    (s w : Store)
    → InRange s
    → InRange w
    → ((c : Cell) → is_read (touch c) ≡ true → s c ≡ w c)
    → Alike touch s w (run s) (run w)

-- ---- the same by effects: whether an element faults, and what it makes of each cell's old value

-- a cell into which amounts are merged starts from the unit
abbrev pub at_unit : Touch → ℤ → ℤ
at_unit (Merged o) v = unit_of o
at_unit _ v = v

-- the store with units where amounts are merged
abbrev pub with_units : (Cell → Touch) → Store → Store
with_units touch w c = at_unit (touch c) (w c)

-- the fault of a run, if it has one
abbrev pub fault_of : {F : Type 0} → Ran F → Option F
fault_of (Faulted f) = Some f
fault_of (Finished t) = None

-- the store after a run; a fault leaves the old one
abbrev pub left_by : {F : Type 0} → Ran F → Store → Store
left_by (Faulted f) s = s
left_by (Finished t) s = t

-- what a run on a store like w makes of the cell c, where v was
abbrev pub made_of : {F : Type 0} → (Store → Ran F) → (Cell → Touch) → Store → Cell → Touch → ℤ → ℤ
made_of run touch w c Untouched v = v
made_of run touch w c Read v = v
made_of run touch w c Updated v = left_by (run (with_units touch w)) w c
made_of run touch w c Written v = left_by (run (with_units touch w)) w c
made_of run touch w c (Merged o) v = merged o v (left_by (run (with_units touch w)) w c)
made_of run touch w c Mixed v = left_by (run (with_cell c v (with_units touch w))) w c

-- a faulty run leaves every cell
abbrev pub unless_faulty : {F : Type 0} → Option F → ℤ → ℤ → ℤ
unless_faulty None v x = x
unless_faulty (Some f) v x = v

-- what an element makes of the value v of the cell c, where w is the store before the loop
abbrev pub effect_of : {F : Type 0} → (Store → Ran F) → (Cell → Touch) → Store → Cell → ℤ → ℤ
effect_of run touch w c v = unless_faulty (fault_of (run (with_units touch w))) v (made_of run touch w c (touch c) v)

-- a run with this fault, or with this store after it
abbrev pub outcome : {F : Type 0} → Option F → Store → Ran F
outcome None t = Finished t
outcome (Some f) t = Faulted f

-- a run on any store s that agrees with w on the cells that are read is given by the effects at w
abbrev pub GivesEffects : {F : Type 0} → (Store → Ran F) → (Cell → Touch) → Type 0
GivesEffects run touch = (w s : Store) → InRange w → InRange s → ((c : Cell) → is_read (touch c) ≡ true → s c ≡ w c)
    → run s ≡ outcome (fault_of (run (with_units touch w))) (λ c. effect_of run touch w c (s c))
