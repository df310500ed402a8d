use Rattle.std.proofs.Common.{◌≡◌, ◌++◌, take}
use Rattle.std.specs.List.{flat_map}
use Rattle.mesh_decl.specs.Mesh.{dat_count, dat_values}
use Rattle.bound_program.specs.Values.{VarValue, bound_of}
use Rattle.run_model.specs.Windows.{numbers}
use Rattle.deep_halo.proofs.chain_memory.layouts.first_block.Given as goal

abbrev pub invariant-loop-dat : goal.invariant-loop-dat
invariant-loop-dat l = l.block.items ≡ flat_map (dat_values (bound_of l.bound).mesh) (numbers l.dat)

abbrev pub invariant-loop-var : goal.invariant-loop-var
invariant-loop-var l = l.block.items
    ≡ flat_map (dat_values (bound_of l.bound).mesh) (numbers (dat_count (bound_of l.bound).mesh))
    ++ flat_map (λ (v : VarValue). v.start) (take l.var-index (bound_of l.bound).vars)
