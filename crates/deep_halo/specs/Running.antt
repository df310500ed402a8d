-- What memory, partials and the kept fault are to the machine of chains.
use Rattle.std.specs.Prelude.{◌≡◌, ◌<◌, ℕ, ℤ, pos, true, List, Option, None, is_some, length, get_or}
use Rattle.kernel_model.specs.declared.types.faults.KernelFault.{KernelFault}
use Rattle.mesh_decl.specs.declared.owners.Owners.{Owners}
use Rattle.mesh_decl.specs.Mesh.{dat_count, dat_set, set_size}
use Rattle.schedule_model.specs.Cells.{Data, Variable, DatCell, VarCell}
use Rattle.schedule_model.specs.Kept.{kept_of}
use Rattle.bound_program.specs.Values.{BoundValue}
use Rattle.run_model.specs.Memory.{has_cell}
use Rattle.run_model.specs.Variables.{of_vars}
use Rattle.bound_plan.specs.Variables.{reduces_at}
use Rattle.rank_state.specs.declared.rank_memory.stop.Stop.{Stop}
use Rattle.rank_state.specs.Stops.{stop_in}
use Rattle.chain_model.specs.Machine.{ChainState, value_in}
use Rattle.chain_model.specs.Slices.{needs}
use Rattle.deep_halo.specs.Places.{in_block, all_cells}

module _ (b : BoundValue) (o : Owners) where
  -- the ranks' blocks have their stores, zeros for pairs that they don't hold, and the block behind them has the variables
  pub record StoresStand (memory : List ℤ) (st : ChainState KernelFault) : Type 0 where
    pub count : length memory ≡ all_cells b o.ranks
    pub pairs : (r : ℕ) (c : DatCell)
        → r < o.ranks
        → has_cell b (Data c) ≡ true
        → get_or memory (in_block b r (Data c)) (pos 0) ≡ value_in (st.stores r c.dat c.element) c.component
    pub variables : (v : VarCell)
        → has_cell b (Variable v) ≡ true
        → get_or memory (in_block b o.ranks (Variable v)) (pos 0) ≡ st.variables v

  -- each rank holds the pairs that it needs before item k
  abbrev pub AreHeld : ℕ → ChainState KernelFault → Type 0
  AreHeld k st =
      (r d y : ℕ)
      → r < o.ranks
      → d < dat_count b.mesh
      → y < set_size b.mesh (dat_set b.mesh d)
      → is_some (st.stores r d y) ≡ needs b o k r d y

  -- the partials of loop s, of the variables into which it merges amounts
  pub record PartialsStand (s : ℕ) (partials : List ℤ) (st : ChainState KernelFault) : Type 0 where
    pub count : length partials ≡ all_cells (of_vars b.vars) o.ranks
    pub cells : (r : ℕ) (v : VarCell)
        → r < o.ranks
        → has_cell b (Variable v) ≡ true
        → is_some (reduces_at b s v) ≡ true
        → get_or partials (in_block (of_vars b.vars) r (Variable v)) (pos 0) ≡ st.partials r s v

  -- all of that, in loop s of a chain that began at item j; and the least fault is kept
  pub record Runs (j s : ℕ) (memory partials : List ℤ) (fault : Option Stop) (st : ChainState KernelFault) : Type 0 where
    pub stores : StoresStand memory st
    pub held : AreHeld j st
    pub amounts : PartialsStand s partials st
    pub kept : stop_in fault ≡ kept_of None st.faults
