-- Where the cells of a setup stand: in one flat buffer a rank, in one list of variables, in the windows of a kernel.
-- Where its elements stand: in places by rank.
use Rattle.std.specs.Prelude.{◌≡◌, ◌<◌, ◌⊎◌, ℕ, ℤ, Bool, true, false, cond, ◌&&◌, ◌||◌, nat_lt, List, [], ◌∷◌, map, length, Some, None}
use Rattle.op_num.specs.Reduction.{Reduction}
use Rattle.schedule_steps.specs.Outline.{Outline}
use Rattle.schedule_model.specs.Cells.{Cell, Data, Variable, DatCell, VarCell, Store, same_cell}
use Rattle.schedule_model.specs.Effects.{Ran, Faulted, Finished, is_modified}
use Rattle.schedule_model.specs.Program.{Free, Host, Hosted, Halts, Goes, is_free, elements, is_loop}
use Rattle.schedule_model.specs.Setup.{Setup, in_set, owner_of, has_copy, executes}
use Rattle.schedule_model.specs.Machine.{arrives}

-- a kernel's run on windows
pub data Core (F : Type 0) : Type 0 where
  Faults : F → Core F
  Leaves : List ℤ → Core F

-- what stands for c among the values ws of the cells xs, or d
abbrev pub lookup : List Cell → List ℤ → Cell → ℤ → ℤ
lookup [] ws c d = d
lookup (x ∷ xs) [] c d = d
lookup (x ∷ xs) (w ∷ ws) c d = cond (same_cell x c) w (lookup xs ws c d)

-- c is one of the cells
abbrev pub among : List Cell → Cell → Bool
among [] c = false
among (x ∷ xs) c = same_cell x c || among xs c

-- a run on windows as a run on the whole store
abbrev pub of_core : {F : Type 0} → List Cell → Store → Core F → Ran F
of_core xs s (Faults f) = Faulted f
of_core xs s (Leaves ws) = Finished (λ c. lookup xs ws c (s c))

-- F is the type of faults
pub record Layout (F : Type 0) : Type 0 where
  -- windows
  pub cells : ℕ → ℕ → List Cell  -- item, element: the cells of its different targets
  pub constants : List VarCell  -- what kernels read beside their windows
  pub core : ℕ → ℕ → List ℤ → List ℤ → Core F  -- item, element, constants, windows
  -- memories
  pub dats : ℕ
  pub dim : ℕ → ℕ  -- dat
  pub width : ℕ → ℕ  -- rank: the cells of its buffer
  pub place : ℕ → DatCell → ℕ  -- rank, cell: where in the buffer
  pub cell_at : ℕ → ℕ → DatCell  -- rank, index in the buffer
  -- variables
  pub variables : ℕ  -- how many cells they have
  pub index_of : VarCell → ℕ
  pub variable_at : ℕ → VarCell
  -- messages
  pub exports : ℕ → ℕ → ℕ → List Cell  -- item, sender, receiver: the cells of exchanged dats that the receiver imports
  -- places of elements
  pub count : ℕ → ℕ → ℕ  -- item, rank: places
  pub original : ℕ → ℕ → ℕ → ℕ  -- item, rank, place: its element
  pub local : ℕ → ℕ → ℕ → ℕ  -- item, rank, element: its place

-- item, sender, receiver: how many cells a message has
abbrev pub message_cells : {F : Type 0} → Layout F → ℕ → ℕ → ℕ → ℕ
message_cells l k s r = length (l.exports k s r)

module _ {F : Type 0} (p : Setup F) (l : Layout F) where
  -- the cell exists: its dat, element and component do
  abbrev pub is_cell : DatCell → Bool
  is_cell c = nat_lt c.dat l.dats && (in_set p c && nat_lt c.component (l.dim c.dat))

  -- the cell is one of the variables'
  abbrev pub IsVariable : VarCell → Type 0
  IsVariable v = (l.index_of v < l.variables) × (l.variable_at (l.index_of v) ≡ v)

  -- the cell exists
  abbrev pub Exists : Cell → Type 0
  Exists (Data c) = is_cell c ≡ true
  Exists (Variable v) = IsVariable v

  -- the rank has the cell in its buffer
  abbrev pub Has : ℕ → DatCell → Type 0
  Has r c = (owner_of p c ≡ r) ⊎ (has_copy p r c ≡ true)

  -- variables into which no loop reduces
  abbrev pub AreConstants : List VarCell → Type 0
  AreConstants [] = Unit {0}
  AreConstants (v ∷ vs) = IsVariable v × ((k : ℕ) → p.program.kind k ≡ Free → p.reduces (p.program.site k) v ≡ None) × AreConstants vs

  -- both statements stop with one fault, or both leave the variables' cells alike and print the same
  abbrev pub HostedAlike : Hosted F → Hosted F → Type 0
  HostedAlike (Halts f) (Halts g) = f ≡ g
  HostedAlike (Goes v o) (Goes u w) = ((i : ℕ) → i < l.variables → v (l.variable_at i) ≡ u (l.variable_at i)) × (o ≡ w)
  HostedAlike (Halts f) (Goes u w) = ⊥
  HostedAlike (Goes v o) (Halts g) = ⊥

  -- the layout is that of the setup
  pub record IsLayout : Type 0 where
    -- windows
    pub run_is : (k e : ℕ) (s : Store)
        → is_loop (p.program.kind k) ≡ true
        → e < elements p.program k
        → p.program.run k e s ≡ of_core (l.cells k e) s (l.core k e (map (λ v. s (Variable v)) l.constants) (map s (l.cells k e)))
    pub same_length : (k e : ℕ) (cs ws us : List ℤ)
        → is_loop (p.program.kind k) ≡ true
        → e < elements p.program k
        → length ws ≡ length (l.cells k e)
        → l.core k e cs ws ≡ Leaves us
        → length us ≡ length (l.cells k e)
    pub constants_are : AreConstants l.constants
    pub exist : (k e : ℕ) (c : Cell)
        → is_loop (p.program.kind k) ≡ true
        → e < elements p.program k
        → among (l.cells k e) c ≡ true
        → Exists c
    pub held : (k r e : ℕ) (c : DatCell)
        → p.program.kind k ≡ Free
        → r < p.ranks
        → e < elements p.program k
        → executes p k r e ≡ true
        → among (l.cells k e) (Data c) ≡ true
        → Has r c
    pub modified_is : (k e : ℕ) (c : DatCell)
        → p.program.kind k ≡ Free
        → e < elements p.program k
        → is_modified (p.touch k e (Data c)) ≡ (p.modifies k c.dat && among (l.cells k e) (Data c))
    pub reduced_held : (k e : ℕ) (v : VarCell) (o : Reduction)
        → p.program.kind k ≡ Free
        → e < elements p.program k
        → p.reduces (p.program.site k) v ≡ Some o
        → among (l.cells k e) (Variable v) ≡ true
    -- memories
    pub placed : (r : ℕ) (c : DatCell)
        → r < p.ranks
        → is_cell c ≡ true
        → Has r c
        → (l.place r c < l.width r) × (l.cell_at r (l.place r c) ≡ c)
    pub real : (r i : ℕ) → r < p.ranks → i < l.width r → is_cell (l.cell_at r i) ≡ true
    -- a host statement goes by the cells that exist, and does alike to them
    pub host_sees : (k : ℕ) (s t : Store)
        → p.program.kind k ≡ Host
        → ((c : Cell) → Exists c → s c ≡ t c)
        → HostedAlike (p.program.host k s) (p.program.host k t)
    -- messages
    pub exported : (k s r : ℕ) (c : DatCell)
        → r < p.ranks
        → is_cell c ≡ true
        → arrives p k r s c ≡ true
        → among (l.exports k s r) (Data c) ≡ true
    pub exports_own : (k s r : ℕ) (c : DatCell)
        → s < p.ranks
        → among (l.exports k s r) (Data c) ≡ true
        → (is_cell c ≡ true) × (owner_of p c ≡ s)
    -- places
    pub inside : (k r e : ℕ)
        → p.program.kind k ≡ Free
        → r < p.ranks
        → e < elements p.program k
        → executes p k r e ≡ true
        → (l.local k r e < l.count k r) × (l.original k r (l.local k r e) ≡ e)
    pub outside : (k r x : ℕ)
        → p.program.kind k ≡ Free
        → r < p.ranks
        → x < l.count k r
        → (l.original k r x < elements p.program k) × (executes p k r (l.original k r x) ≡ true) × (l.local k r (l.original k r x) ≡ x)

  -- what the steps by places depend on: each place is run, and has its element's block and colour
  abbrev pub by_place : Outline
  by_place = record {
    items = p.program.items;
    ranks = p.ranks;
    is_free = λ k. is_free (p.program.kind k);
    sends = p.sends;
    count = l.count;
    executes = λ k r x. true;
    is_core = λ k r x. p.core r (p.program.set k) (l.original k r x);
    block = λ k r x. p.block k r (l.original k r x);
    block_colour = p.block_colour;
    colour = λ k r x. p.colour k r (l.original k r x);
  }
