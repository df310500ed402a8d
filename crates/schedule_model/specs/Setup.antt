-- A bound program on a number of ranks: how its loops reach cells, its owners, halos, exchanges and colours.
use Rattle.std.specs.Prelude.{ℕ, Bool, cond, ◌&&◌, ◌||◌, ◌==◌, nat_lt, Option}
use Rattle.op_num.specs.Reduction.{Reduction}
use Rattle.schedule_steps.specs.Outline.{Outline}
use Rattle.schedule_model.specs.Cells.{Cell, DatCell, VarCell}
use Rattle.schedule_model.specs.Effects.{Touch}
use Rattle.schedule_model.specs.History.{stale_bit}
use Rattle.schedule_model.specs.Program.{Program, is_free, elements}

-- F is the type of faults. Ranks are numbers too, and elements go by their original numbers.
pub record Setup (F : Type 0) : Type 0 where
  pub program : Program F
  -- how its loops reach cells
  pub touch : ℕ → ℕ → Cell → Touch  -- item, element, cell
  pub reduces : ℕ → VarCell → Option Reduction  -- site: how its loop reduces into the variable
  pub modifies : ℕ → ℕ → Bool  -- item, dat
  pub scatters : ℕ → Bool  -- item: it has an indirect argument that reduces into a dat
  -- owners and halos
  pub ranks : ℕ
  pub owner : ℕ → ℕ → ℕ  -- set, element: its rank
  pub import_execute : ℕ → ℕ → ℕ → Bool  -- rank, set, element: in its import execute halo
  pub import_nonexecute : ℕ → ℕ → ℕ → Bool  -- rank, set, element: in its import non-execute halo
  pub core : ℕ → ℕ → ℕ → Bool  -- rank, set, element: owned, as are all its targets
  -- exchanges and colours
  pub needs : ℕ → ℕ → Bool  -- item, dat: copies that it reads have to be fresh
  pub exchanged : ℕ → ℕ → Bool  -- item, dat
  pub sends : ℕ → ℕ → ℕ → Bool  -- item, sender, receiver
  pub block : ℕ → ℕ → ℕ → ℕ  -- item, rank, element
  pub block_colour : ℕ → ℕ → ℕ → ℕ  -- item, rank, block
  pub colour : ℕ → ℕ → ℕ → ℕ  -- item, rank, element

module _ {F : Type 0} (p : Setup F) where
  -- the cell's element is one of its dat's set
  abbrev pub in_set : DatCell → Bool
  in_set c = nat_lt c.element (p.program.size (p.program.set_of c.dat))

  -- the rank that owns the cell; of what is no element of the set, rank 0
  abbrev pub owner_of : DatCell → ℕ
  owner_of c = cond (in_set c) (p.owner (p.program.set_of c.dat) c.element) 0

  -- the rank imports the cell from its owner
  abbrev pub has_copy : ℕ → DatCell → Bool
  has_copy r c =
      in_set c && (p.import_execute r (p.program.set_of c.dat) c.element || p.import_nonexecute r (p.program.set_of c.dat) c.element)

  -- the rank runs its own elements and, where the loop scatters, those of its import execute halo
  abbrev pub executes : ℕ → ℕ → ℕ → Bool
  executes k r e = (p.owner (p.program.set k) e == r) || (p.scatters k && p.import_execute r (p.program.set k) e)

  -- the dat was modified before item k, and not exchanged since
  abbrev pub stale : ℕ → ℕ → Bool
  stale k d = stale_bit (λ i. p.modifies i d) (λ i. p.needs i d) k

  -- what the steps depend on
  abbrev pub outline : Outline
  outline = record {
    items = p.program.items;
    ranks = p.ranks;
    is_free = λ k. is_free (p.program.kind k);
    sends = p.sends;
    count = λ k r. elements p.program k;
    executes = executes;
    is_core = λ k r e. p.core r (p.program.set k) e;
    block = p.block;
    block_colour = p.block_colour;
    colour = p.colour;
  }
