use Rattle.std.proofs.Common.{ap}
use Rattle.kernel_model.specs.declared.types.faults.KernelFault.{KernelFault}
use Rattle.rank_state.specs.Machine.{State}
use Rattle.rank_state.proofs.Public.{merges_in}
use Rattle.rank_machine.proofs.machine.Machine.reduce.Goals as goal

pub reduce_variables-requires-clause-rows : goal.reduce_variables-requires-clause-rows
reduce_variables-requires-clause-rows c = merges_in c.self.inside.partials.items c.deref.result.now c.args.self.now.partials
    c.args.scalars.now c.deref.ensures.value (ap (λ (s : State KernelFault). s.partials) c.self.view_is) c.requires.rows

pub unite_all-requires : goal.unite_all-requires
unite_all-requires c = merges_in c.self.inside.partials.items c.deref_mut-2.result.now c.args.self.now.partials c.args.scalars.now
    c.deref_mut-2.ensures.value (ap (λ (s : State KernelFault). s.partials) c.self.view_is) c.requires.rows
