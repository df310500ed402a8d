-- The run of a kernel for one element of a loop, on the cells of dats and variables.
use Rattle.std.specs.Prelude.{◌≡◌, ◌<◌, ◌↔◌, ◌+◌, ℕ, ℤ, pos, Bool, true, false, List, length, slice_index_or, FitsSigned}
use Rattle.std.specs.Int.{w32}
use Rattle.kernel_model.specs.declared.types.faults.KernelFault.{KernelFault}
use Rattle.kernel_model.specs.declared.types.kernels.RKernel.{RKernel}
use Rattle.kernel_model.specs.Resolved.{IsResolved}
use Rattle.kernel_model.specs.Meaning.{Target, target_at, cell, read_arg, kernel_meaning}
use Rattle.kernel_model.specs.Meaning as kernel
use Rattle.kernel_model.specs.Obeys.{Mode, mode_at, KernelObeys}
use Rattle.kernel_model.specs.Independence.{Fits, same_cell}
use Rattle.kernel_model.specs.Independence as law
use Rattle.schedule_model.specs.Cells.{Cell, Store, InRange}
use Rattle.schedule_model.specs.Effects.{Ran, Faulted, Finished, Independent, GivesEffects}
use Rattle.op_num.specs.Access.{OpRead}
use Rattle.schedule_model.specs.Arguments.{Argument, access_of, Entries, reaches}
use Rattle.schedule_model.specs.Tells.{All}
use Rattle.schedule_model.specs.ByArguments.{IndependentBy, ReadConstants, touch_with}

module _ (entry : Entries) (dim width : ℕ → ℕ) (arg : ℕ → Argument) (n e : ℕ) (modes : List Mode) (cell_of : ℕ → ℕ → Cell) where
  -- the lists hold the values of the store, each component of an argument that of its cell
  pub record Held (ts : List Target) (l : kernel.Store) (s : Store) : Type 0 where
    pub counts : (a : ℕ) → (target_at ts a).count ≡ (mode_at modes a).dim
    pub fits : Fits ts l
    pub aliases : (a i b j : ℕ)
        → i < (mode_at modes a).dim
        → j < (mode_at modes b).dim
        → (same_cell ts a i b j ≡ true) ↔ (cell_of a i ≡ cell_of b j)
    pub values : (a i : ℕ) → i < (mode_at modes a).dim → read_arg ts l a i ≡ s (cell_of a i)

  -- no argument reaches the cell
  abbrev pub IsUnreached : Cell → Type 0
  IsUnreached c = (a : ℕ) → a < n → reaches entry dim width e (arg a) c ≡ false

  -- both runs stop with one fault, or both finish with the same values where arguments reach, and every other cell is that of s
  abbrev pub EndsAs : List Target → Store → kernel.Ran → Ran KernelFault → Type 0
  EndsAs ts s (kernel.Finished l) (Finished t) =
      ((a i : ℕ) → i < (mode_at modes a).dim → t (cell_of a i) ≡ read_arg ts l a i) × ((c : Cell) → IsUnreached c → t c ≡ s c)
  EndsAs ts s (kernel.Stopped l f) (Faulted g) = f ≡ g
  EndsAs ts s (kernel.Finished l) (Faulted g) = ⊥
  EndsAs ts s (kernel.Stopped l f) (Finished t) = ⊥

  -- a run on cells is that of a kernel over any lists that hold the cells which its arguments reach
  pub record IsElementRun (k : RKernel) (is_constant : Cell → Bool) (run : Store → Ran KernelFault) : Type 0 where
    pub count : length modes ≡ n
    pub accesses : (a : ℕ) → a < n → (mode_at modes a).access ≡ access_of (arg a)
    -- the cells of an argument's components are those that it reaches
    pub reach : (a i : ℕ) → i < (mode_at modes a).dim → reaches entry dim width e (arg a) (cell_of a i) ≡ true
    pub reached : (a : ℕ) (c : Cell)
        → a < n
        → reaches entry dim width e (arg a) c ≡ true
        → (i : ℕ) × (i < (mode_at modes a).dim) × (c ≡ cell_of a i)
    -- constants are cells whose values no run changes
    pub consts : Store → List ℤ
    pub constants : (s w : Store) → ((c : Cell) → is_constant c ≡ true → s c ≡ w c) → consts s ≡ consts w
    pub resolved : (s : Store) → IsResolved (length (consts s)) k
    pub numbers : (s : Store) → InRange s → (j : ℕ) → FitsSigned w32 (slice_index_or (consts s) j (pos 0))
    -- the lists that the kernel runs on
    pub targets : Store → List Target
    pub lists : Store → kernel.Store
    pub in_range : (s : Store) → InRange s → law.InRange (lists s)
    pub held : (s : Store) → Held (targets s) (lists s) s
    pub ends : (s : Store) → EndsAs (targets s) s (kernel_meaning (targets s) (consts s) k (lists s)) (run s)

  -- ---- whole arrays

  -- each cell that is there has its value at its place: an array and an index in it
  abbrev pub HoldsAll : (Cell → Bool) → (Cell → ℕ) → (Cell → ℕ) → kernel.Store → Store → Type 0
  HoldsAll is_there array index l s = (c : Cell) → is_there c ≡ true → cell l (array c) (index c) ≡ s c

  -- the arguments name the places of the cells that they reach, and different cells have different places
  pub record OnArrays (is_there : Cell → Bool) (array index : Cell → ℕ) (ts : List Target) : Type 0 where
    pub counts : (a : ℕ) → (target_at ts a).count ≡ (mode_at modes a).dim
    pub there : (a i : ℕ) → i < (mode_at modes a).dim → is_there (cell_of a i) ≡ true
    pub arrays : (a i : ℕ) → i < (mode_at modes a).dim → (target_at ts a).array ≡ array (cell_of a i)
    pub indices : (a i : ℕ) → i < (mode_at modes a).dim → (target_at ts a).from + i ≡ index (cell_of a i)
    pub apart : (c d : Cell) → is_there c ≡ true → is_there d ≡ true → array c ≡ array d → index c ≡ index d → c ≡ d

  -- both runs stop with one fault, or both finish and the arrays hold the store
  abbrev pub EndsHolding : (Cell → Bool) → (Cell → ℕ) → (Cell → ℕ) → kernel.Ran → Ran KernelFault → Type 0
  EndsHolding is_there array index (kernel.Finished l) (Finished t) = HoldsAll is_there array index l t
  EndsHolding is_there array index (kernel.Stopped l f) (Faulted g) = f ≡ g
  EndsHolding is_there array index (kernel.Finished l) (Faulted g) = ⊥
  EndsHolding is_there array index (kernel.Stopped l f) (Finished t) = ⊥

-- the run of an element by a kernel that obeys its modes is independent by its arguments
abbrev pub ElementRunsAreIndependent : Type 0
ElementRunsAreIndependent =
    (entry : Entries) (dim width : ℕ → ℕ) (arg : ℕ → Argument) (n e : ℕ) (modes : List Mode) (cell_of : ℕ → ℕ → Cell)
    (k : RKernel) (is_constant : Cell → Bool) (run : Store → Ran KernelFault)
    → IsElementRun entry dim width arg n e modes cell_of k is_constant run
    → KernelObeys k modes
    → IndependentBy entry dim width arg n e is_constant run

-- the run of an element by a kernel that obeys its modes is independent by the touches of cells, where constants are read
abbrev pub ElementRunsAreIndependentByTouches : Type 0
ElementRunsAreIndependentByTouches =
    (entry : Entries) (dim width : ℕ → ℕ) (arg : ℕ → Argument) (n e : ℕ) (modes : List Mode) (cell_of : ℕ → ℕ → Cell)
    (k : RKernel) (is_constant : Cell → Bool) (run : Store → Ran KernelFault)
    → IsElementRun entry dim width arg n e modes cell_of k is_constant run
    → KernelObeys k modes
    → ReadConstants entry dim width arg n e is_constant
    → Independent run (touch_with entry dim width arg n e is_constant)

-- the run of an element by a kernel that obeys its modes is given by whether it faults and by what it makes of each old value
abbrev pub ElementRunsGiveEffects : Type 0
ElementRunsGiveEffects =
    (entry : Entries) (dim width : ℕ → ℕ) (arg : ℕ → Argument) (n e : ℕ) (modes : List Mode) (cell_of : ℕ → ℕ → Cell)
    (k : RKernel) (is_constant : Cell → Bool) (run : Store → Ran KernelFault)
    → IsElementRun entry dim width arg n e modes cell_of k is_constant run
    → KernelObeys k modes
    → ReadConstants entry dim width arg n e is_constant
    → GivesEffects run (touch_with entry dim width arg n e is_constant)

-- the run of an element keeps all values in range
abbrev pub ElementRunsKeepRange : Type 0
ElementRunsKeepRange =
    (entry : Entries) (dim width : ℕ → ℕ) (arg : ℕ → Argument) (n e : ℕ) (modes : List Mode) (cell_of : ℕ → ℕ → Cell)
    (k : RKernel) (is_constant : Cell → Bool) (run : Store → Ran KernelFault)
    → IsElementRun entry dim width arg n e modes cell_of k is_constant run
    → (s t : Store) → InRange s → run s ≡ Finished t → InRange t

-- where the kernel obeys its modes, it keeps each cell that OP_READ arguments alone reach, or none, in an Ordered loop too
abbrev pub ElementRunsKeepReads : Type 0
ElementRunsKeepReads =
    (entry : Entries) (dim width : ℕ → ℕ) (arg : ℕ → Argument) (n e : ℕ) (modes : List Mode) (cell_of : ℕ → ℕ → Cell)
    (k : RKernel) (is_constant : Cell → Bool) (run : Store → Ran KernelFault)
    → IsElementRun entry dim width arg n e modes cell_of k is_constant run → KernelObeys k modes
    → (s t : Store) → run s ≡ Finished t → (c : Cell) → All entry dim width arg n e c (λ x. x ≡ OpRead) → t c ≡ s c

-- the run of an element ends as the kernel's meaning does over any lists that hold the cells
abbrev pub AnyListsServe : Type 0
AnyListsServe =
    (entry : Entries) (dim width : ℕ → ℕ) (arg : ℕ → Argument) (n e : ℕ) (modes : List Mode) (cell_of : ℕ → ℕ → Cell)
    (k : RKernel) (is_constant : Cell → Bool) (run : Store → Ran KernelFault)
    → (h : IsElementRun entry dim width arg n e modes cell_of k is_constant run)
    → (s : Store) (ts : List Target) (l : kernel.Store) → Held entry dim width arg n e modes cell_of ts l s
    → EndsAs entry dim width arg n e modes cell_of ts s (kernel_meaning ts (h.consts s) k l) (run s)

-- two runs of one kernel for one element, with the same constants, are equal
abbrev pub ElementRunsAgree : Type 0
ElementRunsAgree =
    (entry : Entries) (dim width : ℕ → ℕ) (arg : ℕ → Argument) (n e : ℕ) (modes : List Mode) (cell_of : ℕ → ℕ → Cell)
    (k : RKernel) (is_constant : Cell → Bool) (run other : Store → Ran KernelFault)
    → (h : IsElementRun entry dim width arg n e modes cell_of k is_constant run)
    → (g : IsElementRun entry dim width arg n e modes cell_of k is_constant other)
    → (s : Store) → h.consts s ≡ g.consts s → run s ≡ other s

-- over whole arrays that hold the store, the kernel's meaning leaves arrays that hold the store after the run
abbrev pub ElementRunsOnArrays : Type 0
ElementRunsOnArrays =
    (entry : Entries) (dim width : ℕ → ℕ) (arg : ℕ → Argument) (n e : ℕ) (modes : List Mode) (cell_of : ℕ → ℕ → Cell)
    (k : RKernel) (is_constant : Cell → Bool) (run : Store → Ran KernelFault)
    → (h : IsElementRun entry dim width arg n e modes cell_of k is_constant run)
    → (is_there : Cell → Bool) (array index : Cell → ℕ) (ts : List Target)
    → OnArrays entry dim width arg n e modes cell_of is_there array index ts
    → (s : Store) (l : kernel.Store) → Fits ts l → HoldsAll entry dim width arg n e modes cell_of is_there array index l s
    → EndsHolding entry dim width arg n e modes cell_of is_there array index (kernel_meaning ts (h.consts s) k l) (run s)
