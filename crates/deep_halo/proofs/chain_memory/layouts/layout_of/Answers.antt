use Rattle.std.proofs.Common.{◌≡◌, ◌+◌, map, length, ap, arith}
use Rattle.bound_program.specs.Values.{var_of, bound_of}
use Rattle.run_model.specs.Memory.{memory_length, var_start}
use Rattle.run_model.specs.Variables.{of_vars}
use Rattle.deep_halo.proofs.chain_memory.Within.{vars_behind}
use Rattle.deep_halo.proofs.chain_memory.layouts.layout_of.Goals as goal

pub variable_starts-requires : goal.variable_starts-requires
variable_starts-requires c =
    let b = bound_of c.args.bound.now in
    let all : memory_length b ≡ var_start b 0 + memory_length (of_vars b.vars) = vars_behind b (length b.vars) in
    let same : memory_length (of_vars (map var_of c.deref.result.now)) ≡ memory_length (of_vars b.vars) = ap (λ xs. memory_length (of_vars (map var_of xs))) c.deref.ensures.value in
    omega (arith, all, same, c.requires.cells, c.ranges.cells.fits)
