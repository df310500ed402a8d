-- A program with its slices, and which pairs ranks hold.
use Rattle.std.specs.Prelude.{◌≡◌, ◌<◌, ◌≤◌, ℕ, ℤ, List, Bool, Option, Some, None, true, is_some, length}
use Rattle.mesh_decl.specs.declared.owners.Owners.{Owners}
use Rattle.mesh_decl.specs.Mesh.{dat_count, dat_set, set_size}
use Rattle.bound_program.specs.Values.{BoundValue}
use Rattle.run_model.specs.Kernels.{constants}
use Rattle.kernel_code.specs.Codes.{HaveRoom}
use Rattle.chain_model.specs.Machine.{Holding}
use Rattle.chain_model.specs.Slices.{needs, owns_pair}
use Rattle.chain_model.specs.Counts.{begins_at}
use Rattle.chain_needs.specs.Slices.{AreSlices, IsFreeItem}
use Rattle.deep_halo.specs.Sound.{Sound, program_in}
use Rattle.deep_halo.specs.declared.programs.Program.{Program}

module _ (x : Program) where
  -- the program
  abbrev pub program_of_run : BoundValue
  program_of_run = program_in x.blocks.now

  -- the owners of its elements
  abbrev pub owners_of_run : Owners
  owners_of_run = x.blocks.now.owners.now

  -- the slices are those of the program
  pub record IsProgram : Type 0 where
    pub sound : Sound x.blocks.now
    pub slices : AreSlices program_of_run owners_of_run x.slices.now

  -- there's room for each of its kernels
  pub record IsRoom (values saved locals : List ℤ) : Type 0 where
    pub constants : length values ≡ length (constants program_of_run)
    pub cells : 1024 ≤ length saved
    pub slots : HaveRoom x.blocks.now.codes.now (length locals)

module _ (b : BoundValue) (o : Owners) where
  -- rank r holds the pair, where a chain began last at an item, if one did
  abbrev pub held_since : Option ℕ → ℕ → ℕ → ℕ → Bool
  held_since None r d y = owns_pair b o r d y
  held_since (Some k) r d y = needs b o k r d y

  -- a chain began there, if one did
  abbrev pub HasBegun : Option ℕ → Type 0
  HasBegun None = Unit {0}
  HasBegun (Some k) = IsFreeItem b k × (begins_at b k ≡ true)

  -- a rank's store has these pairs
  abbrev pub IsHolding : Option ℕ → ℕ → Holding → Type 0
  IsHolding begun r h =
      (d y : ℕ) → d < dat_count b.mesh → y < set_size b.mesh (dat_set b.mesh d) → is_some (h d y) ≡ held_since begun r d y
