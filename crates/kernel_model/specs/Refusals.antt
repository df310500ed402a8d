-- Which access rule a kernel breaks, and where (the meaning of OP_READ, OP_WRITE, OP_RW, OP_INC, OP_MIN and OP_MAX in the OP2 manual).
use Rattle.std.specs.Prelude.{◌≡◌, ℕ, ℤ, pos, negsuc, ◌<◌, ◌≤◌, List, [], ◌∷◌, ◌++◌, Bool, true, false, Option, Some, None, ◌⊎◌, ◌↔◌, slice_index_or}
use Rattle.c_tree.specs.declared.lexer.tokens.Pos.{Pos}
use Rattle.c_tree.specs.Order.{IsEarlier}
use Rattle.c_tree.specs.declared.expressions.MinMax.{MinMax}
use Rattle.c_tree.specs.declared.expressions.MinMax.TheVariants as min_max
use Rattle.op_num.specs.Reduction.{Reduction, Add, Min, Max}
use Rattle.kernel_model.specs.declared.types.statements.RStmt.{RStmt}
use Rattle.kernel_model.specs.declared.types.kernels.RKernel.{RKernel}
use Rattle.op_num.specs.Access.{Access, OpRead, OpWrite, OpReduce}
use Rattle.kernel_model.specs.Obeys.{Mode, mode_at, Event, Reads, Assigns, Adds, Changes, Owns, Merges, Path, events, no_counters, Assigned, HasAssigned, assigned_after, KernelObeys}

-- the rules, in the order in which they count at one place
pub data Rule : Type 0 where
  -- an OP_READ argument is a target
  WritesRead : Rule
  -- an OP_INC, OP_MIN or OP_MAX argument is read, other than as the target of its allowed form
  ReadsInc : Rule
  -- an OP_INC argument is the target of another assignment than += and -=
  IncNotSum : Rule
  -- a component of an OP_WRITE argument is read that isn't assigned before
  ReadsUnwritten : Rule
  -- a component of an OP_WRITE argument isn't assigned at the end
  NotAllWritten : Rule
  -- an index on an OP_WRITE argument isn't static
  WriteIndexNotStatic : Rule
  -- a static index on any argument isn't below its dim
  LiteralIndexOut : Rule
  -- an OP_MIN argument is the target of another assignment than P = MIN(P, e) and P = MIN(e, P); likewise OP_MAX and MAX
  MinMaxForm : Rule

-- the number of a rule
abbrev pub number_of : Rule → ℕ
number_of WritesRead = 1
number_of ReadsInc = 2
number_of IncNotSum = 3
number_of ReadsUnwritten = 4
number_of NotAllWritten = 5
number_of WriteIndexNotStatic = 6
number_of LiteralIndexOut = 7
number_of MinMaxForm = 8

-- ---- one event

-- the argument that the event is about
abbrev pub argument_of : Event → ℕ
argument_of (Reads a ix at) = a
argument_of (Assigns a ix at) = a
argument_of (Adds a ix at) = a
argument_of (Changes a ix at) = a
argument_of (Owns which a ix at) = a
argument_of (Merges which a ix at) = a

-- its index, where that is static
abbrev pub index_of : Event → Option ℤ
index_of (Reads a ix at) = ix
index_of (Assigns a ix at) = ix
index_of (Adds a ix at) = ix
index_of (Changes a ix at) = ix
index_of (Owns which a ix at) = ix
index_of (Merges which a ix at) = ix

-- the place of the argument's name
abbrev pub place_of : Event → Pos
place_of (Reads a ix at) = at
place_of (Assigns a ix at) = at
place_of (Adds a ix at) = at
place_of (Changes a ix at) = at
place_of (Owns which a ix at) = at
place_of (Merges which a ix at) = at

-- the argument is the target of an assignment
abbrev pub is_target : Event → Bool
is_target (Reads a ix at) = false
is_target (Assigns a ix at) = true
is_target (Adds a ix at) = true
is_target (Changes a ix at) = true
is_target (Owns which a ix at) = false
is_target (Merges which a ix at) = true

-- it is the target of += or -=
abbrev pub is_sum : Event → Bool
is_sum (Adds a ix at) = true
is_sum e = false

-- MIN belongs to OP_MIN, and MAX to OP_MAX
abbrev pub belongs : MinMax → Access → Bool
belongs min_max.Min (OpReduce Min) = true
belongs min_max.Max (OpReduce Max) = true
belongs which acc = false

-- it is the target P of P = MIN(P, e) or P = MIN(e, P) under OP_MIN, or of the same with MAX under OP_MAX
abbrev pub is_extremum : Access → Event → Bool
is_extremum acc (Merges which a ix at) = belongs which acc
is_extremum acc e = false

-- += and -= read an argument that isn't OP_INC
abbrev pub sum_reads : Access → Bool
sum_reads (OpReduce Add) = false
sum_reads acc = true

-- the other
abbrev pub opposite : Bool → Bool
opposite true = false
opposite false = true

-- the argument is read, other than in the form that its access allows; a compound assignment reads its target
abbrev pub is_read : Access → Event → Bool
is_read acc (Reads a ix at) = true
is_read acc (Assigns a ix at) = false
is_read acc (Adds a ix at) = sum_reads acc
is_read acc (Changes a ix at) = true
is_read acc (Owns which a ix at) = opposite (belongs which acc)
is_read acc (Merges which a ix at) = false

-- a static index isn't below the dim
abbrev pub IsOut : ℕ → Option ℤ → Type 0
IsOut dim None = ⊥
IsOut dim (Some (pos i)) = dim ≤ i
IsOut dim (Some (negsuc i)) = Unit {0}

-- a component below the dim isn't assigned before
abbrev pub IsUnwritten : ℕ → ℕ → Option ℤ → Assigned → Type 0
IsUnwritten dim a None before = ⊥
IsUnwritten dim a (Some (pos i)) before = (i < dim) × (HasAssigned before a i → ⊥)
IsUnwritten dim a (Some (negsuc i)) before = ⊥

-- the event breaks the rule, where the argument has that access and dim, and those components were assigned before
abbrev pub Breaks : Access → ℕ → Assigned → Event → Rule → Type 0
Breaks acc dim before e WritesRead = (acc ≡ OpRead) × (is_target e ≡ true)
Breaks acc dim before e ReadsInc = ((r : Reduction) × (acc ≡ OpReduce r)) × (is_read acc e ≡ true)
Breaks acc dim before e IncNotSum = (acc ≡ OpReduce Add) × (is_target e ≡ true) × (is_sum e ≡ false)
Breaks acc dim before e ReadsUnwritten = (acc ≡ OpWrite) × (is_read acc e ≡ true) × IsUnwritten dim (argument_of e) (index_of e) before
Breaks acc dim before e NotAllWritten = ⊥
Breaks acc dim before e WriteIndexNotStatic = (acc ≡ OpWrite) × (index_of e ≡ None)
Breaks acc dim before e LiteralIndexOut = IsOut dim (index_of e)
Breaks acc dim before e MinMaxForm = ((acc ≡ OpReduce Min) ⊎ (acc ≡ OpReduce Max)) × (is_target e ≡ true) × (is_extremum acc e ≡ false)

-- ---- a kernel

-- an event on some path breaks the rule at that place
abbrev pub EventBreaks : RStmt → List Mode → Rule → Pos → Type 0
EventBreaks body modes rule at =
    (w : Path body) × (xs : List Event) × (e : Event) × (ys : List Event)
    × (events body w no_counters ≡ xs ++ (e ∷ ys)) × (place_of e ≡ at)
    × Breaks (mode_at modes (argument_of e)).access (mode_at modes (argument_of e)).dim (assigned_after [] xs) e rule

-- a component of an OP_WRITE argument isn't assigned on some path to the end; the place is that of the parameter
abbrev pub EndBreaks : RStmt → (ℕ → Pos) → List Mode → Rule → Pos → Type 0
EndBreaks body place modes rule at =
    (w : Path body) × (a : ℕ) × (i : ℕ)
    × (rule ≡ NotAllWritten) × (place a ≡ at) × ((mode_at modes a).access ≡ OpWrite) × (i < (mode_at modes a).dim)
    × (HasAssigned (assigned_after [] (events body w no_counters)) a i → ⊥)

-- the place of a parameter's name
abbrev pub parameter_place : RKernel → ℕ → Pos
parameter_place k a = slice_index_or k.body.param_places.items a (record { line = 0; column = 0 })

-- the kernel breaks the rule at that place
abbrev pub KernelBreaks : RKernel → List Mode → Rule → Pos → Type 0
KernelBreaks k modes rule at = EventBreaks k.body.statement modes rule at ⊎ EndBreaks k.body.statement (parameter_place k) modes rule at

-- the refusal of a kernel: of all rules that it breaks, that at the earliest place, and there the one with the least number
pub record IsRefusal (k : RKernel) (modes : List Mode) (rule : Rule) (at : Pos) : Type 0 where
  pub breaks : KernelBreaks k modes rule at
  pub first : (other : Rule) (there : Pos)
      → KernelBreaks k modes other there
      → IsEarlier at there ⊎ ((at ≡ there) × (number_of rule ≤ number_of other))

-- a kernel obeys its modes exactly where it breaks no rule at any place
abbrev pub ObeysUnlessBroken : Type 0
ObeysUnlessBroken = (k : RKernel) (modes : List Mode) → KernelObeys k modes ↔ ((rule : Rule) (at : Pos) → KernelBreaks k modes rule at → ⊥)

-- a kernel has at most one refusal
abbrev pub OneRefusal : Type 0
OneRefusal =
    (k : RKernel) (modes : List Mode) (rule other : Rule) (at there : Pos)
    → IsRefusal k modes rule at
    → IsRefusal k modes other there
    → (rule ≡ other) × (at ≡ there)
