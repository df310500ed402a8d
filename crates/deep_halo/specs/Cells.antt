-- What the cells of all blocks hold.
use Rattle.std.specs.Prelude.{◌≡◌, ◌≤◌, ℕ, ℤ, pos, Bool, true, false, cond, ◌&&◌, nat_eq, nat_lt, List, None, length, get_or}
use Rattle.std.specs.List.{list_any}
use Rattle.mesh_decl.specs.declared.owners.Owners.{Owners}
use Rattle.schedule_model.specs.Cells.{Cell, Data, Variable}
use Rattle.bound_program.specs.Values.{BoundValue}
use Rattle.run_model.specs.Windows.{Reached, Element, Whole}
use Rattle.run_model.specs.Memory.{has_cell}
use Rattle.run_model.specs.Programs.{first_values}
use Rattle.deep_halo.specs.Places.{in_block, all_cells, block_at}
use Rattle.deep_halo.specs.Sound.{program_in, ranks_in}
use Rattle.deep_halo.specs.declared.chain_memory.blocks.Blocks.{Blocks}

-- block, cell: its value
abbrev pub Values : Type 0
Values = ℕ → Cell → ℤ

-- the memory has these values, in the ranks' blocks and the one behind them
pub record BlocksHold (b : BoundValue) (ranks : ℕ) (memory : List ℤ) (f : Values) : Type 0 where
  pub count : length memory ≡ all_cells b ranks
  pub cells : (n : ℕ) (c : Cell) → n ≤ ranks → has_cell b c ≡ true → get_or memory (in_block b n c) (pos 0) ≡ f n c

-- the memory of a program in blocks holds these values
abbrev pub Hold : Blocks → List ℤ → Values → Type 0
Hold x memory f = BlocksHold (program_in x) (ranks_in x) memory f

-- ---- cells

-- which component of its element or variable a cell is
abbrev pub component_of : Cell → ℕ
component_of (Data c) = c.component
component_of (Variable v) = v.component

-- the cell is one of those of what is reached
abbrev pub is_cell_of : Reached → Cell → Bool
is_cell_of (Element d y) (Data c) = nat_eq c.dat d && nat_eq c.element y
is_cell_of (Whole v) (Variable c) = nat_eq c.variable v
is_cell_of _ _ = false

-- the cell is of a pair of the dat and one of the elements
abbrev pub is_among : ℕ → List ℕ → Cell → Bool
is_among d ys (Data c) = nat_eq c.dat d && list_any (nat_eq c.element) ys
is_among d ys (Variable v) = false

-- ---- values

-- with others, by component, in block n where a target stands
abbrev pub with_target : ℕ → Reached → (ℕ → ℤ) → Values → Values
with_target n t u f m c = cond (nat_eq m n && is_cell_of t c) (u (component_of c)) (f m c)

-- with zeros in block n for the pairs of a dat and these elements
abbrev pub cleared : ℕ → ℕ → List ℕ → Values → Values
cleared n d ys f m c = cond (nat_eq m n && is_among d ys c) (pos 0) (f m c)

-- with their owners' values there
abbrev pub taken : BoundValue → Owners → ℕ → ℕ → List ℕ → Values → Values
taken b o n d ys f m c = cond (nat_eq m n && is_among d ys c) (f (block_at b o None c) c) (f m c)

-- the first values in the block behind those of so many ranks, and zeros in these
abbrev pub first_in_last : BoundValue → ℕ → Values
first_in_last b ranks n c = cond (nat_eq n ranks) (first_values b c) (pos 0)

-- with the values of the last block, for the pairs that pass, in their owners' blocks
abbrev pub taken_by_owners : BoundValue → Owners → (ℕ → ℕ → Bool) → Values → Values
taken_by_owners b o test f m (Data c) =
    cond (nat_eq m (block_at b o None (Data c)) && test c.dat c.element) (f o.ranks (Data c)) (f m (Data c))
taken_by_owners b o test f m (Variable v) = f m (Variable v)

-- the elements below n of a dat
abbrev pub is_below : ℕ → ℕ → ℕ → ℕ → Bool
is_below d n e y = nat_eq e d && nat_lt y n

-- all pairs of the dats below n
abbrev pub is_earlier : ℕ → ℕ → ℕ → Bool
is_earlier n e y = nat_lt e n
