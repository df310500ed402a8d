-- A Free loop of a chain.
use Rattle.std.specs.Prelude.{◌≡◌, ℕ, ℤ, List, length}
use Rattle.kernel_model.specs.declared.types.faults.KernelFault.{KernelFault}
use Rattle.bound_program.specs.Values.{BoundValue}
use Rattle.mesh_decl.specs.declared.owners.Owners.{Owners}
use Rattle.run_model.specs.Kernels.{constants}
use Rattle.run_model.specs.Programs.{item_at, loop_of, program_of}
use Rattle.chain_model.specs.Machine.{ChainState, view, ran}
use Rattle.chain_model.specs.Slices.{slicing_of}
use Rattle.chain_needs.specs.Slices.{AreSlices, IsFreeItem}
use Rattle.deep_halo.specs.Sound.{Sound, IsLoop, program_in}
use Rattle.deep_halo.specs.Constants.{constants_in}
use Rattle.deep_halo.specs.declared.chain_ranks.loops.ChainLoop.{ChainLoop}

module _ (x : ChainLoop) where
  -- the program
  abbrev pub program_of_loop : BoundValue
  program_of_loop = program_in x.blocks.now

  -- the owners of its elements
  abbrev pub owners_of_loop : Owners
  owners_of_loop = x.blocks.now.owners.now

  -- it is the loop of its item, and its chain began at that item
  pub record IsChainLoop : Type 0 where
    pub sound : Sound x.blocks.now
    pub slices : AreSlices program_of_loop owners_of_loop x.slices.now
    pub loop : IsLoop program_of_loop x.all.now
    pub item : IsFreeItem program_of_loop x.item
    pub site : x.all.now.site ≡ loop_of (item_at program_of_loop x.item)
    pub begun : IsFreeItem program_of_loop x.begun
    pub values : length x.values.now ≡ length (constants program_of_loop)

-- the state after element e on rank r, which executes it
abbrev pub element_ran : BoundValue → Owners → (k r e : ℕ) → ChainState KernelFault → ChainState KernelFault
element_ran b o k r e st = ran (slicing_of b o) k r e ((program_of b).run k e (view (slicing_of b o) k r st)) st

-- the values are those of the constants
abbrev pub HasConstants : BoundValue → List ℤ → ChainState KernelFault → Type 0
HasConstants b values st = values ≡ constants_in b st.variables
