-- The ranks' own pairs in their blocks, and nothing else.
use Rattle.std.specs.Prelude.{◌≡◌, ◌<◌, ℕ, ℤ, pos, true, cond, List, length, get_or}
use Rattle.kernel_model.specs.declared.types.faults.KernelFault.{KernelFault}
use Rattle.mesh_decl.specs.declared.owners.Owners.{Owners}
use Rattle.schedule_model.specs.Cells.{Data, Variable, DatCell, VarCell}
use Rattle.bound_program.specs.Values.{BoundValue}
use Rattle.run_model.specs.Memory.{has_cell}
use Rattle.chain_model.specs.Machine.{ChainState, value_in}
use Rattle.chain_model.specs.Slices.{owns_pair}
use Rattle.deep_halo.specs.Places.{in_block, all_cells}

-- the ranks' blocks have their own pairs of the stores, with zeros for all others, and the block behind them has the variables
pub record OwnStand (b : BoundValue) (o : Owners) (memory : List ℤ) (st : ChainState KernelFault) : Type 0 where
  pub count : length memory ≡ all_cells b o.ranks
  pub pairs : (r : ℕ) (c : DatCell)
      → r < o.ranks
      → has_cell b (Data c) ≡ true
      → get_or memory (in_block b r (Data c)) (pos 0)
      ≡ cond (owns_pair b o r c.dat c.element) (value_in (st.stores r c.dat c.element) c.component) (pos 0)
  pub variables : (v : VarCell)
      → has_cell b (Variable v) ≡ true
      → get_or memory (in_block b o.ranks (Variable v)) (pos 0) ≡ st.variables v
