-- Two nodes and two edges between them, on two ranks: node e and edge e belong to rank e. Dat 0 is x and dat 1 is r, both on the nodes.
-- Variable 0 is a sum, variable 1 the constant one, and variable 2 a base.
use Rattle.std.specs.Prelude.{ℕ, zero, suc, ℤ, pos, ◌+ℤ◌, Bool, true, false, cond, ◌&&◌, ◌||◌, ◌==◌, nat_lt, List, [], ◌∷◌, Option, Some, None}
use Rattle.std.specs.Int.{int_wrap, w32}
use Rattle.op_num.specs.Reduction.{Reduction, Add}
use Rattle.schedule_model.specs.Cells.{Cell, Data, Variable, DatCell, VarCell, Store}
use Rattle.schedule_model.specs.Effects.{Ran, Faulted, Finished, Touch, Untouched, Read, Written, Merged}
use Rattle.schedule_model.specs.Program.{Program, Kind, Free, Reduce, Ordered, Host, Goes}
use Rattle.schedule_model.specs.Setup.{Setup}

-- the other of the two
abbrev pub other : ℕ → ℕ
other zero = 1
other (suc n) = 0

-- x of a node
abbrev pub x_cell : ℕ → DatCell
x_cell n = record { dat = 0; element = n; component = 0 }

-- r of a node
abbrev pub r_cell : ℕ → DatCell
r_cell n = record { dat = 1; element = n; component = 0 }

-- the sum
abbrev pub sum_cell : VarCell
sum_cell = record { variable = 0; component = 0 }

-- the constant one
abbrev pub one_cell : VarCell
one_cell = record { variable = 1; component = 0 }

-- the base
abbrev pub base_cell : VarCell
base_cell = record { variable = 2; component = 0 }

-- x of a node, as a cell
abbrev pub x : ℕ → Cell
x n = Data (x_cell n)

-- r of a node, as a cell
abbrev pub r : ℕ → Cell
r n = Data (r_cell n)

-- the sum, as a cell
abbrev pub sum : Cell
sum = Variable sum_cell

-- the constant one, as a cell
abbrev pub one : Cell
one = Variable one_cell

-- the base, as a cell
abbrev pub base : Cell
base = Variable base_cell

-- the cell is x of one of the nodes
abbrev pub is_x : DatCell → Bool
is_x c = (c.dat == 0) && (nat_lt c.element 2 && (c.component == 0))

-- the cell is r of one of the nodes
abbrev pub is_r : DatCell → Bool
is_r c = (c.dat == 1) && (nat_lt c.element 2 && (c.component == 0))

-- the cell is the sum's
abbrev pub is_sum : VarCell → Bool
is_sum v = (v.variable == 0) && (v.component == 0)

-- the cell is the constant's
abbrev pub is_one : VarCell → Bool
is_one v = (v.variable == 1) && (v.component == 0)

-- the cell is the base's
abbrev pub is_base : VarCell → Bool
is_base v = (v.variable == 2) && (v.component == 0)

-- item 0: each node writes its x, from its number and twice the base.
-- Item 1: each edge adds the x of each node to the r of the other, and the constant one to the sum.
-- Item 2 reduces the sum. Item 3: each node adds its r to its x, one after another. Item 4 prints the sum.
abbrev pub kind : ℕ → Kind
kind zero = Free
kind (suc zero) = Free
kind (suc (suc zero)) = Reduce
kind (suc (suc (suc zero))) = Ordered
kind (suc (suc (suc (suc n)))) = Host

-- items 1 and 2 are of one loop
abbrev pub site : ℕ → ℕ
site zero = 0
site (suc zero) = 1
site (suc (suc zero)) = 1
site (suc (suc (suc n))) = 2

-- the nodes are set 0, the edges set 1
abbrev pub set : ℕ → ℕ
set zero = 0
set (suc zero) = 1
set (suc (suc n)) = 0

-- item 0 reads the base and writes its node's x; item 1 reads each x and the constant, and adds to each r and to the sum
abbrev pub touch : ℕ → ℕ → Cell → Touch
touch zero e (Data c) = cond (is_x c && (c.element == e)) Written Untouched
touch zero e (Variable v) = cond (is_base v) Read Untouched
touch (suc zero) e (Data c) = cond (is_x c) Read (cond (is_r c) (Merged Add) Untouched)
touch (suc zero) e (Variable v) = cond (is_sum v) (Merged Add) (cond (is_one v) Read Untouched)
touch (suc (suc n)) e c = Untouched

-- the loop of item 1 adds to the sum
abbrev pub reduces : ℕ → VarCell → Option Reduction
reduces zero v = None
reduces (suc zero) v = cond (is_sum v) (Some Add) None
reduces (suc (suc n)) v = None

-- what item 0 leaves in a cell
abbrev pub written : ℕ → Store → Store
written e s (Data c) = cond (is_x c && (c.element == e)) (int_wrap w32 (pos (suc e) +ℤ (s base +ℤ s base))) (s (Data c))
written e s (Variable v) = s (Variable v)

-- what item 1 leaves in a cell
abbrev pub added : Store → Store
added s (Data c) = cond (is_r c) (int_wrap w32 (s (Data c) +ℤ s (x (other c.element)))) (s (Data c))
added s (Variable v) = cond (is_sum v) (int_wrap w32 (s (Variable v) +ℤ s one)) (s (Variable v))

-- what item 3 leaves in a cell
abbrev pub moved : ℕ → Store → Store
moved e s (Data c) = cond (is_x c && (c.element == e)) (int_wrap w32 (s (Data c) +ℤ s (r e))) (s (Data c))
moved e s (Variable v) = s (Variable v)

-- in a faulty run each edge faults, with its number
abbrev pub unless : Bool → ℕ → Store → Ran ℕ
unless true e s = Faulted e
unless false e s = Finished s

-- the kernels' runs
abbrev pub run : Bool → ℕ → ℕ → Store → Ran ℕ
run faulty zero e s = Finished (written e s)
run faulty (suc zero) e s = unless faulty e (added s)
run faulty (suc (suc n)) e s = Finished (moved e s)

-- the variable is one of the three
abbrev pub is_variable : VarCell → Bool
is_variable v = nat_lt v.variable 3 && (v.component == 0)

-- the host statement leaves the variables
abbrev pub kept_variables : Store → VarCell → ℤ
kept_variables s v = cond (is_variable v) (s (Variable v)) (pos 0)

-- prints the sum where it is a natural number
abbrev pub digits : ℤ → List ℕ
digits (pos n) = n ∷ []
digits _ = []

-- items 0 and 3 modify x, item 1 r
abbrev pub modifies : ℕ → ℕ → Bool
modifies zero d = d == 0
modifies (suc zero) d = d == 1
modifies (suc (suc zero)) d = false
modifies (suc (suc (suc zero))) d = d == 0
modifies (suc (suc (suc (suc n)))) d = false

-- x is needed at item 1, and stale there, since item 0 modified it
abbrev pub needs : ℕ → ℕ → Bool
needs zero d = false
needs (suc zero) d = d == 0
needs (suc (suc n)) d = false

-- each rank sends to the other, in item 1
abbrev pub sends : ℕ → ℕ → ℕ → Bool
sends zero s t = false
sends (suc zero) s t = ((s == 0) && (t == 1)) || ((s == 1) && (t == 0))
sends (suc (suc n)) s t = false

-- each rank imports the other's edge to execute it
abbrev pub import_execute : ℕ → ℕ → ℕ → Bool
import_execute t zero e = false
import_execute t (suc n) e = e == other t

-- each rank imports the other's node to read it
abbrev pub import_nonexecute : ℕ → ℕ → ℕ → Bool
import_nonexecute t zero e = e == other t
import_nonexecute t (suc n) e = false

-- nodes have no targets, and each edge has one that its rank doesn't own
abbrev pub core : ℕ → ℕ → ℕ → Bool
core t zero e = e == t
core t (suc n) e = false

-- everything begins at 0, and the constant is 1
abbrev pub first_value : Store
first_value (Data c) = pos 0
first_value (Variable v) = cond (is_one v) (pos 1) (pos 0)

-- the program
abbrev pub ring_program : Bool → Program ℕ
ring_program faulty = record {
  items = 5;
  kind = kind;
  site = site;
  set = set;
  size = λ s. 2;
  set_of = λ d. 0;
  start = first_value;
  run = run faulty;
  host = λ k s. Goes (kept_variables s) (digits (s sum));
}

-- blocks of one element: both edges modify both nodes, so they have different colours, and edge 1 has the lower one
abbrev pub ring : Bool → Setup ℕ
ring faulty = record {
  program = ring_program faulty;
  touch = touch;
  reduces = reduces;
  modifies = modifies;
  scatters = λ k. k == 1;
  ranks = 2;
  owner = λ s e. e;
  import_execute = import_execute;
  import_nonexecute = import_nonexecute;
  core = core;
  needs = needs;
  exchanged = needs;
  sends = sends;
  block = λ k t e. e;
  block_colour = λ k t b. other b;
  colour = λ k t e. 0;
}
