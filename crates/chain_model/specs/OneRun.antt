-- That a run by chains is one: where kernels and owners lie in memory is nothing to it.
use Rattle.std.specs.Prelude.{◌≡◌, Bool, List, map, Option}
use Rattle.kernel_model.specs.declared.types.faults.KernelFault.{KernelFault}
use Rattle.kernel_model.specs.declared.types.kernels.RKernel.{RKernel}
use Rattle.kernel_model.specs.View.{rkernel_of}
use Rattle.mesh_decl.specs.declared.owners.Owners.{Owners}
use Rattle.schedule_model.specs.Sequential.{Stop}
use Rattle.bound_program.specs.Values.{BoundValue}
use Rattle.bound_plan.specs.OneRun.{with_kernels}
use Rattle.chain_model.specs.Outcomes.{chains_run, chains_text, dump_after}

-- kernels with the same trees, and the same owners
pub record SameChains (b : BoundValue) (ks : List RKernel) (o u : Owners) : Type 0 where
  pub kernels : map rkernel_of b.kernels ≡ map rkernel_of ks
  pub ranks : o.ranks ≡ u.ranks
  pub owners : o.sets.items ≡ u.sets.items

-- the runs of such programs over these owners have one text of their counts, and one dump
pub record HaveOneText (b : BoundValue) (ks : List RKernel) (o u : Owners) : Type 0 where
  pub text : chains_text b o ≡ chains_text (with_kernels b ks) u
  pub dump : (dumps : Bool) (x : Option (Stop KernelFault))
      → dump_after b o dumps (chains_run b o) x ≡ dump_after (with_kernels b ks) u dumps (chains_run (with_kernels b ks) u) x

-- wherever kernels and owners lie in memory, chains have one text and one dump
abbrev pub ChainsAreOne : Type 0
ChainsAreOne = (b : BoundValue) (ks : List RKernel) (o u : Owners) → SameChains b ks o u → HaveOneText b ks o u
