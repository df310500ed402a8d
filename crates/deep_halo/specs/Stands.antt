-- What a run under way is to the machine of chains.
use Rattle.std.specs.Prelude.{◌≡◌, ◌<◌, ◌≢◌, ℕ, zero, suc, true, pos, Option, Some, None, IfSome, is_some, length}
use Rattle.kernel_model.specs.declared.types.faults.KernelFault.{KernelFault}
use Rattle.mesh_decl.specs.declared.owners.Owners.{Owners}
use Rattle.schedule_model.specs.Machine.{unit_at}
use Rattle.schedule_model.specs.Cells.{VarCell}
use Rattle.schedule_model.specs.Kept.{kept_of, OfElements}
use Rattle.bound_program.specs.Values.{BoundValue, ItemValue, Free, Reduce, Ordered, Host}
use Rattle.run_model.specs.Programs.{item_at, program_of}
use Rattle.run_model.specs.Variables.{of_vars}
use Rattle.bound_plan.specs.Variables.{reduces_at}
use Rattle.rank_state.specs.declared.rank_memory.stop.Stop.{Stop}
use Rattle.rank_state.specs.Stops.{stop_in, stop_of}
use Rattle.chain_model.specs.Chains.{follows_free}
use Rattle.chain_model.specs.Machine.{ChainState}
use Rattle.deep_halo.specs.Places.{all_cells}
use Rattle.deep_halo.specs.Running.{StoresStand, PartialsStand}
use Rattle.deep_halo.specs.Programs.{IsHolding, HasBegun}
use Rattle.deep_halo.specs.declared.state.State.{State}

-- the loop of a Free item
abbrev pub free_loop : ItemValue → Option ℕ
free_loop (Free s) = Some s
free_loop (Reduce s) = None
free_loop (Ordered s) = None
free_loop (Host a) = None

-- the loop of the item directly before item k, where that is Free: its partials are under way
abbrev pub recent : BoundValue → ℕ → Option ℕ
recent b zero = None
recent b (suc k) = free_loop (item_at b k)

module _ (b : BoundValue) (o : Owners) where
  -- before item k, where nothing stopped the machine
  pub record Stands (k : ℕ) (x : State) (st : ChainState KernelFault) : Type 0 where
    pub stores : StoresStand b o x.memory.items st
    pub held : (r : ℕ) → r < o.ranks → IsHolding b o x.begun r (st.stores r)
    pub begun : HasBegun b o x.begun
    pub chain : follows_free (program_of b).kind k ≡ true → is_some x.begun ≡ true
    pub count : length x.partials.items ≡ all_cells (of_vars b.vars) o.ranks
    pub amounts : (s : ℕ) → recent b k ≡ Some s → PartialsStand b o s x.partials.items st
    pub others : (r s : ℕ) (v : VarCell) → recent b k ≢ Some s → st.partials r s v ≡ unit_at (reduces_at b s v)
    pub none : (r s : ℕ) (v : VarCell) → reduces_at b s v ≡ None → st.partials r s v ≡ pos 0
    pub kept : stop_in x.fault ≡ kept_of None st.faults
    pub early : IfSome x.fault (λ f. f.item < k)
    pub elements : OfElements st.faults
    pub output : st.output ≡ x.out.items
    pub going : st.stop ≡ None

  -- after an item: it goes on, or has stopped
  abbrev pub Ends : ℕ → State → Option Stop → ChainState KernelFault → Type 0
  Ends k x None st = Stands k x st
  Ends k x (Some f) st = (st.stop ≡ Some (stop_of f)) × (st.output ≡ x.out.items)
