use Rattle.std.proofs.Common.{◌≡◌, Some, sym, ap, ◌∙◌}
use Rattle.kernel_model.specs.declared.types.faults.KernelFault.{KernelFault}
use Rattle.schedule_model.specs.Kept.{if_before}
use Rattle.schedule_model.specs.Flat.{Flat}
use Rattle.rank_state.specs.Stops.{stop_of, stop_in}
use Rattle.rank_program.specs.Sound.{setup_in, layout_in, tables_in}
use Rattle.rank_exec.proofs.joins.join.Goals as goal

pub returns-in-Some-clause-after : goal.returns-in-Some-clause-after
returns-in-Some-clause-after c f h =
    let e : if_before c.args.item c.args.machine.now.fault ≡ Some (stop_of c.in-Some.stop) = sym c.fault_before.ensures ∙ ap stop_in c.in-Some.is in
    let s = c.join_shows.ensures.stops (setup_in c.args.program.now) (layout_in c.args.program.now) (tables_in c.args.program.now) c.args.machine.now f h c.args.item (stop_of c.in-Some.stop) e in
    (ap (λ (z : Flat KernelFault). z.stop) s, ap (λ (z : Flat KernelFault). z.output) s ∙ sym h.output)
