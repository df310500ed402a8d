-- Chains of a bound program.
use Rattle.std.specs.Prelude.{◌≡◌, ℕ, suc, true, false, ◌||◌, ◌&&◌, nat_eq}
use Rattle.std.specs.List.{list_any}
use Rattle.lemmas.specs.Below.{any_below}
use Rattle.mesh_decl.specs.declared.owners.Owners.{Owners}
use Rattle.mesh_decl.specs.Mesh.{set_size}
use Rattle.mesh_decl.specs.Owners.{AreOwners, owner_of}
use Rattle.schedule_model.specs.Program.{is_free}
use Rattle.bound_program.specs.Values.{BoundValue}
use Rattle.bound_program.specs.Fits.{Fits}
use Rattle.run_model.specs.Programs.{program_of, run_of_program, printed, first_fault}
use Rattle.run_model.specs.Ranges.{AllObey, StartsInRange}
use Rattle.run_model.specs.Laws.{site_of}
use Rattle.loop_plan.specs.Laws.{FitsMemory}
use Rattle.chain_model.specs.Machine.{ChainAgrees}
use Rattle.chain_model.specs.Held.{StoresHold}
use Rattle.chain_model.specs.ChainLaws.{KeepsNeeds}
use Rattle.chain_model.specs.Slices.{slicing_of, needs, executes, owns_pair, modifies_some, reads_pair}
use Rattle.chain_model.specs.Outcomes.{chains_run, chains_output}

-- what is needed and executed, item by item, from the end of a chain to its start
pub record AreBackwards (b : BoundValue) (o : Owners) : Type 0 where
  -- before an item that isn't Free, a rank's own pairs
  pub last : (k r d y : ℕ) → is_free ((program_of b).kind k) ≡ false → needs b o k r d y ≡ owns_pair b o r d y
  -- before a Free item also what is read by the elements that it executes
  pub needed : (k r d y : ℕ)
      → is_free ((program_of b).kind k) ≡ true
      → needs b o k r d y
      ≡ (needs b o (suc k) r d y
      || any_below (set_size b.mesh (site_of b k).set) (λ e. executes b o k r e && list_any (reads_pair b d y e) (site_of b k).args))
  -- its own elements, and those that modify what it needs behind the item
  pub executed : (k r e : ℕ)
      → executes b o k r e
      ≡ (nat_eq (owner_of o (site_of b k).set e) r || list_any (modifies_some b (needs b o (suc k) r) e) (site_of b k).args)

-- what is needed and executed is so in every program on every number of ranks
abbrev pub SlicesAreBackwards : Type 0
SlicesAreBackwards = (b : BoundValue) (o : Owners) → AreBackwards b o

-- a program and owners of its mesh's elements, whose kernels obey their modes, and that begins with numbers of 32 bits; its lists of
-- targets are as short as those of memory
pub record Chainable (b : BoundValue) (o : Owners) : Type 0 where
  pub fits : Fits b
  pub owners : AreOwners b.mesh o
  pub memory : FitsMemory b.mesh
  pub obey : AllObey b
  pub start : StartsInRange b

-- chains run as the sequential run does
abbrev pub ChainsRunAsSequential : Type 0
ChainsRunAsSequential = (b : BoundValue) (o : Owners) → Chainable b o → ChainAgrees (slicing_of b o) (run_of_program b) (chains_run b o)

-- each rank holds what it needs before each loop
abbrev pub ChainsKeepNeeds : Type 0
ChainsKeepNeeds = (b : BoundValue) (o : Owners) → Chainable b o → KeepsNeeds (slicing_of b o)

-- so a run without a dump prints what the program prints, and stops at its first fault
pub record RunsAsProgram (b : BoundValue) (o : Owners) : Type 0 where
  pub output : chains_output b o false ≡ printed b
  pub stop : (chains_run b o).stop ≡ first_fault b

-- every run by chains does so
abbrev pub ChainsPrintTheProgram : Type 0
ChainsPrintTheProgram = (b : BoundValue) (o : Owners) → Chainable b o → RunsAsProgram b o

-- which pairs ranks hold before each item of a run by chains
abbrev pub ChainStoresHold : Type 0
ChainStoresHold = (b : BoundValue) (o : Owners) (k : ℕ) → StoresHold (slicing_of b o) k
