use Rattle.std.proofs.Common.{ℤ, arith, ap, length, Vec, Global}
use Rattle.std.proofs.lemmas.List.{length-map}
use Rattle.kernel_model.specs.declared.types.faults.KernelFault.{KernelFault}
use Rattle.rank_state.specs.Machine.{State}
use Rattle.rank_machine.proofs.machine.Machine.ranks.Goals as goal

pub returns : goal.returns
returns c =
    let whole = c.self.inside.memories.ok.0 in
    let shown = length-map c.self.inside.memories.items (λ (v : Vec ℤ Global). v.items) in
    let seen = ap (λ (s : State KernelFault). length s.memories) c.self.view_is in
    let count = c.len.ensures in
    omega (arith, whole, shown, seen, count)
