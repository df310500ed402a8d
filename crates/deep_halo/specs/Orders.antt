-- The owners' pairs and the variables in the memory, and what an Ordered loop makes of them.
use Rattle.std.specs.Prelude.{◌≡◌, ◌<◌, ◌≢◌, ℕ, ℤ, pos, true, List, Option, Some, None, length, get_or}
use Rattle.kernel_model.specs.declared.types.faults.KernelFault.{KernelFault}
use Rattle.mesh_decl.specs.declared.owners.Owners.{Owners}
use Rattle.schedule_model.specs.Cells.{Cell, Data, DatCell, Store}
use Rattle.schedule_model.specs.Sequential.{Loop, Broke, Ran_through}
use Rattle.bound_program.specs.Values.{BoundValue}
use Rattle.run_model.specs.Memory.{has_cell}
use Rattle.rank_state.specs.declared.rank_memory.stop.Stop.{Stop}
use Rattle.rank_state.specs.Stops.{stop_in}
use Rattle.deep_halo.specs.Places.{in_block, all_cells, block_at, stands_at}

module _ (b : BoundValue) (o : Owners) where
  -- the owners' blocks have the store's pairs, and the block behind them its variables
  pub record OwnersStand (memory : List ℤ) (s : Store) : Type 0 where
    pub count : length memory ≡ all_cells b o.ranks
    pub cells : (c : Cell) → has_cell b c ≡ true → get_or memory (stands_at b o None c) (pos 0) ≡ s c

  -- pairs in other blocks stay
  abbrev pub OthersStay : (old new : List ℤ) → Type 0
  OthersStay old new =
      (r : ℕ) (c : DatCell)
      → r < o.ranks
      → has_cell b (Data c) ≡ true
      → block_at b o None (Data c) ≢ r
      → get_or new (in_block b r (Data c)) (pos 0) ≡ get_or old (in_block b r (Data c)) (pos 0)

  -- the loop of item k broke at its first element with a fault, or ran through
  abbrev pub LoopEnds : ℕ → List ℤ → Option Stop → Loop KernelFault → Type 0
  LoopEnds k memory stop (Broke e f s) = (stop_in stop ≡ Some (record { item = k; element = Some e; fault = f })) × OwnersStand memory s
  LoopEnds k memory stop (Ran_through s) = (stop_in stop ≡ None) × OwnersStand memory s
