-- What a kernel that obeys its modes does to two stores, and what any kernel keeps.
use Rattle.std.specs.Prelude.{◌≡◌, ◌≢◌, ℕ, ℤ, pos, ◌+◌, ◌<◌, List, [], length, Bool, true, ◌&&◌, ◌⊎◌, nat_eq, slice_index_or, FitsSigned}
use Rattle.std.specs.Int.{w32}
use Rattle.op_num.specs.Reduction.{Reduction, merged}
use Rattle.kernel_model.specs.declared.types.kernels.RKernel.{RKernel}
use Rattle.kernel_model.specs.Resolved.{IsResolved}
use Rattle.kernel_model.specs.Meaning.{Store, cell, Target, target_at, read_arg, Ran, Finished, Stopped, kernel_meaning}
use Rattle.op_num.specs.Access.{Access, OpRead, OpWrite, OpRw, OpReduce}
use Rattle.kernel_model.specs.Obeys.{Mode, mode_at, KernelObeys}

-- two arguments' components are one cell
abbrev pub same_cell : List Target → ℕ → ℕ → ℕ → ℕ → Bool
same_cell ts a i b j =
    nat_eq (target_at ts a).array (target_at ts b).array && nat_eq ((target_at ts a).from + i) ((target_at ts b).from + j)

-- the store that a run leaves, after a fault too
abbrev pub store_after : Ran → Store
store_after (Finished s) = s
store_after (Stopped s f) = s

-- the arguments name cells of the store
pub record Fits (ts : List Target) (s : Store) : Type 0 where
  pub arrays : (a i : ℕ) → i < (target_at ts a).count → (target_at ts a).array < length s
  pub cells : (a i : ℕ) → i < (target_at ts a).count → (target_at ts a).from + i < length (slice_index_or s (target_at ts a).array [])

-- ---- independence

module _ (modes : List Mode) where
  -- an argument's access
  abbrev pub access : ℕ → Access
  access a = (mode_at modes a).access

  -- how many components it has
  abbrev pub dim : ℕ → ℕ
  dim a = (mode_at modes a).dim

  -- the arguments name cells of the store, as many as the modes say; those of arguments that reduce hold numbers of 32 bits
  pub record Suits (ts : List Target) (s : Store) : Type 0 where
    pub counts : (a : ℕ) → (target_at ts a).count ≡ dim a
    pub arrays : (a i : ℕ) → i < dim a → (target_at ts a).array < length s
    pub cells : (a i : ℕ) → i < dim a → (target_at ts a).from + i < length (slice_index_or s (target_at ts a).array [])
    pub numbers : (r : Reduction) (a i : ℕ) → i < dim a → access a ≡ OpReduce r → FitsSigned w32 (read_arg ts s a i)

  -- the same pairs of components are one cell
  abbrev pub SameAliases : List Target → List Target → Type 0
  SameAliases ts us = (a i b j : ℕ) → i < dim a → j < dim b → same_cell ts a i b j ≡ same_cell us a i b j

  -- the same pairs of components are one cell, where the first is of an argument that isn't OP_READ
  abbrev pub SameStoredAliases : List Target → List Target → Type 0
  SameStoredAliases ts us =
      (a i b j : ℕ) → i < dim a → j < dim b → access a ≢ OpRead → same_cell ts a i b j ≡ same_cell us a i b j

  -- equal where OP_READ or OP_RW arguments reach
  abbrev pub SameInputs : List Target → List Target → Store → Store → Type 0
  SameInputs ts us s t =
      (a i : ℕ) → i < dim a → (access a ≡ OpRead) ⊎ (access a ≡ OpRw) → read_arg ts s a i ≡ read_arg us t a i

  -- a cell that arguments of one reduction alone reach
  abbrev pub Alone : Reduction → List Target → ℕ → ℕ → Type 0
  Alone r ts a i = (b j : ℕ) → j < dim b → same_cell ts b j a i ≡ true → access b ≡ OpReduce r

  -- the accesses that only merge amounts into a cell
  abbrev pub IsReducing : Access → Type 0
  IsReducing acc = (r : Reduction) × (acc ≡ OpReduce r)

  -- a cell that reductions alone reach
  abbrev pub OnlyReduced : List Target → ℕ → ℕ → Type 0
  OnlyReduced ts a i = (b j : ℕ) → j < dim b → same_cell ts b j a i ≡ true → IsReducing (access b)

  -- cells that OP_READ, OP_WRITE and OP_RW arguments reach are equal; others, which one reduction alone reaches, took the same amount;
  -- others, which several reductions reach, are equal where they were
  pub record SameChanges (ts us : List Target) (s t s' t' : Store) : Type 0 where
    pub equal : (a i : ℕ)
        → i < dim a
        → (access a ≡ OpRead) ⊎ (access a ≡ OpRw) ⊎ (access a ≡ OpWrite)
        → read_arg ts s' a i ≡ read_arg us t' a i
    pub amounts : (r : Reduction) (a i : ℕ)
        → i < dim a
        → Alone r ts a i
        → (d : ℤ) × (read_arg ts s' a i ≡ merged r (read_arg ts s a i) d) × (read_arg us t' a i ≡ merged r (read_arg us t a i) d)
    pub mixed : (a i : ℕ) → i < dim a → OnlyReduced ts a i → read_arg ts s a i ≡ read_arg us t a i → read_arg ts s' a i ≡ read_arg us t' a i

  -- the same fault, or none and the same changes
  abbrev pub SameRuns : List Target → List Target → Store → Store → Ran → Ran → Type 0
  SameRuns ts us s t (Finished s') (Finished t') = SameChanges ts us s t s' t'
  SameRuns ts us s t (Stopped s' f) (Stopped t' g) = f ≡ g
  SameRuns ts us s t (Finished s') (Stopped t' g) = ⊥
  SameRuns ts us s t (Stopped s' f) (Finished t') = ⊥

-- a kernel that obeys its modes depends on what OP_READ and OP_RW arguments reach, and on nothing else
abbrev pub Independence : Type 0
Independence =
    (k : RKernel) (modes : List Mode) (consts : List ℤ) (ts us : List Target) (s t : Store)
    → IsResolved (length consts) k → KernelObeys k modes
    → Suits modes ts s → Suits modes us t → SameAliases modes ts us → SameInputs modes ts us s t
    → SameRuns modes ts us s t (kernel_meaning ts consts k s) (kernel_meaning us consts k t)

-- the same, where the aliases of OP_READ arguments among each other may differ
abbrev pub StoredIndependence : Type 0
StoredIndependence =
    (k : RKernel) (modes : List Mode) (consts : List ℤ) (ts us : List Target) (s t : Store)
    → IsResolved (length consts) k → KernelObeys k modes
    → Suits modes ts s → Suits modes us t → SameStoredAliases modes ts us → SameInputs modes ts us s t
    → SameRuns modes ts us s t (kernel_meaning ts consts k s) (kernel_meaning us consts k t)

-- ---- cells that stay

-- an argument reaches the cell
abbrev pub IsReached : List Target → ℕ → ℕ → Type 0
IsReached ts x j = (a : ℕ) × (i : ℕ) × (i < (target_at ts a).count) × ((target_at ts a).array ≡ x) × ((target_at ts a).from + i ≡ j)

-- a cell that no argument reaches stays, after a fault too
abbrev pub OthersStay : Type 0
OthersStay =
    (k : RKernel) (ts : List Target) (consts : List ℤ) (s : Store) (x j : ℕ)
    → Fits ts s → (IsReached ts x j → ⊥) → cell (store_after (kernel_meaning ts consts k s)) x j ≡ cell s x j

-- each argument that reaches the cell is OP_READ
abbrev pub OnlyRead : List Mode → List Target → ℕ → ℕ → Type 0
OnlyRead modes ts x j =
    (a i : ℕ) → i < (target_at ts a).count → (target_at ts a).array ≡ x → (target_at ts a).from + i ≡ j → (mode_at modes a).access ≡ OpRead

-- a cell that OP_READ arguments alone reach, or none, stays under a kernel that obeys its modes, after a fault too
abbrev pub ReadsStay : Type 0
ReadsStay =
    (k : RKernel) (modes : List Mode) (ts : List Target) (consts : List ℤ) (s : Store) (x j : ℕ)
    → KernelObeys k modes → Fits ts s → OnlyRead modes ts x j → cell (store_after (kernel_meaning ts consts k s)) x j ≡ cell s x j

-- a run keeps how many arrays there are and how long each is, after a fault too
abbrev pub ShapeStays : Type 0
ShapeStays =
    (k : RKernel) (ts : List Target) (consts : List ℤ) (s : Store)
    → Fits ts s
    → (length (store_after (kernel_meaning ts consts k s)) ≡ length s)
    × ((x : ℕ) → length (slice_index_or (store_after (kernel_meaning ts consts k s)) x []) ≡ length (slice_index_or s x []))

-- ---- transport

-- the same counts, the same pairs of components in one cell, and the same number in each component
pub record IsCopy (ts us : List Target) (s t : Store) : Type 0 where
  pub counts : (a : ℕ) → (target_at ts a).count ≡ (target_at us a).count
  pub aliases : (a i b j : ℕ) → i < (target_at ts a).count → j < (target_at ts b).count → same_cell ts a i b j ≡ same_cell us a i b j
  pub cells : (a i : ℕ) → i < (target_at ts a).count → read_arg ts s a i ≡ read_arg us t a i

-- the same fault or none
abbrev pub SameEnd : Ran → Ran → Type 0
SameEnd (Finished s) (Finished t) = Unit {0}
SameEnd (Stopped s f) (Stopped t g) = f ≡ g
SameEnd (Finished s) (Stopped t g) = ⊥
SameEnd (Stopped s f) (Finished t) = ⊥

-- over a copy of the cells that its arguments reach, any kernel has the same fault or none, and leaves a copy, after a fault too
abbrev pub Transport : Type 0
Transport =
    (k : RKernel) (consts : List ℤ) (ts us : List Target) (s t : Store)
    → Fits ts s → Fits us t → IsCopy ts us s t
    → SameEnd (kernel_meaning ts consts k s) (kernel_meaning us consts k t)
    × IsCopy ts us (store_after (kernel_meaning ts consts k s)) (store_after (kernel_meaning us consts k t))

-- ---- range

-- each cell of the store holds a number of 32 bits
abbrev pub InRange : Store → Type 0
InRange s = (x j : ℕ) → FitsSigned w32 (cell s x j)

-- where all cells and constants hold numbers of 32 bits, all cells do after a run, after a fault too
abbrev pub RangeStays : Type 0
RangeStays =
    (k : RKernel) (ts : List Target) (consts : List ℤ) (s : Store)
    → IsResolved (length consts) k → ((j : ℕ) → FitsSigned w32 (slice_index_or consts j (pos 0)))
    → Fits ts s → InRange s → InRange (store_after (kernel_meaning ts consts k s))
