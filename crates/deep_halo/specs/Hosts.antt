-- What a statement of `main` that is no loop makes of the memory and the output.
use Rattle.std.specs.Prelude.{◌≡◌, ◌<◌, ◌++◌, ℕ, ℤ, pos, true, List, Result, Ok, Err, get_or}
use Rattle.kernel_model.specs.declared.types.faults.KernelFault.{KernelFault}
use Rattle.mesh_decl.specs.declared.owners.Owners.{Owners}
use Rattle.schedule_model.specs.Cells.{Data, Variable, DatCell, VarCell}
use Rattle.schedule_model.specs.Program.{Hosted, Halts, Goes}
use Rattle.bound_program.specs.Values.{BoundValue}
use Rattle.run_model.specs.Memory.{has_cell}
use Rattle.deep_halo.specs.Places.{in_block}

module _ (b : BoundValue) (o : Owners) (old new : List ℤ) (said says : List ℕ) where
  -- the ranks' pairs stay, and the variables have these values
  pub record Sets (v : VarCell → ℤ) : Type 0 where
    pub pairs : (r : ℕ) (c : DatCell)
        → r < o.ranks
        → has_cell b (Data c) ≡ true
        → get_or new (in_block b r (Data c)) (pos 0) ≡ get_or old (in_block b r (Data c)) (pos 0)
    pub variables : (x : VarCell) → has_cell b (Variable x) ≡ true → get_or new (in_block b o.ranks (Variable x)) (pos 0) ≡ v x

  -- it has been done, or has a fault and prints nothing
  abbrev pub HostEnds : {A : Type 0} → Result A KernelFault → Hosted KernelFault → Type 0
  HostEnds (Ok x) (Goes v bytes) = Sets v × (says ≡ said ++ bytes)
  HostEnds (Err f) (Halts g) = (f ≡ g) × (says ≡ said)
  HostEnds (Ok x) (Halts g) = ⊥
  HostEnds (Err f) (Goes v bytes) = ⊥
