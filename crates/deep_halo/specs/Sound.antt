-- A program whose cells stand in blocks.
use Rattle.std.specs.Prelude.{◌≡◌, ◌<◌, ◌^◌, ℕ, Option, Some, length}
use Rattle.kernel_code.specs.Codes.{AreCodesOf}
use Rattle.kernel_code.specs.Coded.{IsCode}
use Rattle.mesh_decl.specs.Owners.{AreOwners}
use Rattle.bound_program.specs.Values.{BoundValue, bound_of}
use Rattle.bound_program.specs.Fits.{Fits, site_at}
use Rattle.run_model.specs.Kernels.{kernel_at}
use Rattle.schedule_model.specs.Cells.{Cell}
use Rattle.deep_halo.specs.Places.{all_cells, stands_at}
use Rattle.deep_halo.specs.Layouts.{IsLayout}
use Rattle.deep_halo.specs.declared.chain_memory.blocks.Blocks.{Blocks}
use Rattle.deep_halo.specs.declared.chain_memory.loops.Loop.{Loop}

module _ (x : Blocks) where
  -- the program
  abbrev pub program_in : BoundValue
  program_in = bound_of x.bound.now

  -- the number of ranks
  abbrev pub ranks_in : ℕ
  ranks_in = x.owners.now.ranks

  -- where kernels find a cell: those that run in a rank's block, and those that run on the owners' pairs and the variables
  abbrev pub place_in : Option ℕ → Cell → ℕ
  place_in at = stands_at program_in x.owners.now at

  -- what is looked up is the program's, and 64 bits count all cells
  pub record Sound : Type 0 where
    pub fits : Fits program_in
    pub owners : AreOwners program_in.mesh x.owners.now
    pub codes : AreCodesOf program_in.kernels x.codes.now
    pub layout : IsLayout program_in x.layout.now
    pub room : all_cells program_in ranks_in < 2 ^ 64

-- what is at hand of a loop is the loop of its number, with its kernel's code
pub record IsLoop (b : BoundValue) (l : Loop) : Type 0 where
  pub there : l.site < length b.sites
  pub set : l.set ≡ (site_at b l.site).set
  pub args : l.args.now ≡ (site_at b l.site).args
  pub code : IsCode l.code.now
  pub kernel : kernel_at b.kernels (site_at b l.site).kernel ≡ Some l.code.now.kernel.now
