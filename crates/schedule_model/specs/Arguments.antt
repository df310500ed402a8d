-- The arguments of a loop (op_arg_dat and op_arg_gbl of the OP2 manual), and by which of them an element reaches a cell.
use Rattle.std.specs.Prelude.{ℕ, zero, suc, Bool, true, false, cond, ◌&&◌, ◌==◌, nat_lt}
use Rattle.op_num.specs.Reduction.{Reduction, Add, Min, Max}
use Rattle.op_num.specs.Access.{Access, OpRead, OpWrite, OpRw, OpReduce}
use Rattle.schedule_model.specs.Cells.{Cell, Data, Variable}
use Rattle.schedule_model.specs.Effects.{Touch, Untouched, Read, Updated, Written, Merged, Mixed}

-- direct, through a map, or a variable
pub data Argument : Type 0 where
  Direct : ℕ → Access → Argument  -- dat
  Indirect : ℕ → ℕ → ℕ → Access → Argument  -- dat, map, index
  Global : ℕ → Access → Argument  -- variable

-- the argument's access
abbrev pub access_of : Argument → Access
access_of (Direct d x) = x
access_of (Indirect d m i x) = x
access_of (Global v x) = x

-- the argument's access is not OP_READ
abbrev pub modifying : Access → Bool
modifying OpRead = false
modifying _ = true

-- OP_READ or OP_RW
abbrev pub reading : Access → Bool
reading OpRead = true
reading OpRw = true
reading _ = false

-- the argument is direct
abbrev pub is_direct : Argument → Bool
is_direct (Direct d x) = true
is_direct _ = false

-- the argument is on the dat
abbrev pub is_on : ℕ → Argument → Bool
is_on d (Direct e x) = e == d
is_on d (Indirect e m i x) = e == d
is_on d (Global v x) = false

-- the map's entry: map, element, index
abbrev pub Entries : Type 0
Entries = ℕ → ℕ → ℕ → ℕ

-- the element of the dat that element e reaches by the argument
abbrev pub target : Entries → ℕ → Argument → ℕ
target entry e (Direct d x) = e
target entry e (Indirect d m i x) = entry m e i
target entry e (Global v x) = 0

-- element e reaches the cell by the argument; dim gives the components of a dat, and width those of a variable
abbrev pub reaches : Entries → (ℕ → ℕ) → (ℕ → ℕ) → ℕ → Argument → Cell → Bool
reaches entry dim width e (Direct d x) (Data c) = (d == c.dat) && ((e == c.element) && nat_lt c.component (dim d))
reaches entry dim width e (Indirect d m i x) (Data c) = (d == c.dat) && ((entry m e i == c.element) && nat_lt c.component (dim d))
reaches entry dim width e (Global v x) (Variable c) = (v == c.variable) && nat_lt c.component (width v)
reaches entry dim width e _ _ = false

-- the two operations are one
abbrev pub same_reduction : Reduction → Reduction → Bool
same_reduction Add Add = true
same_reduction Min Min = true
same_reduction Max Max = true
same_reduction _ _ = false

-- the touch of a cell that is reached by one argument more
abbrev pub joined : Touch → Access → Touch
joined Untouched OpRead = Read
joined Read OpRead = Read
joined Updated OpRead = Updated
joined Written OpRead = Updated
joined (Merged o) OpRead = Updated
joined Mixed OpRead = Updated
joined k OpRw = Updated
joined Untouched OpWrite = Written
joined Read OpWrite = Updated
joined Updated OpWrite = Updated
joined Written OpWrite = Written
joined (Merged o) OpWrite = Written
joined Mixed OpWrite = Written
joined Untouched (OpReduce o) = Merged o
joined Read (OpReduce o) = Updated
joined Updated (OpReduce o) = Updated
joined Written (OpReduce o) = Written
joined (Merged n) (OpReduce o) = cond (same_reduction n o) (Merged n) Mixed
joined Mixed (OpReduce o) = Mixed

-- by the first n arguments
abbrev pub touch_by : Entries → (ℕ → ℕ) → (ℕ → ℕ) → (ℕ → Argument) → ℕ → ℕ → Cell → Touch
touch_by entry dim width arg zero e c = Untouched
touch_by entry dim width arg (suc n) e c =
    cond
    (reaches entry dim width e (arg n) c)
    (joined (touch_by entry dim width arg n e c) (access_of (arg n)))
    (touch_by entry dim width arg n e c)
