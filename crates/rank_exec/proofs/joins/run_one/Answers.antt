use Rattle.std.proofs.Common.{sym, ap, subst, ◌∙◌}
use Rattle.rank_state.specs.Ordered.{AreOwned}
use Rattle.rank_program.specs.Sound.{setup_in, layout_in, tables_in}
use Rattle.rank_state.specs.Indices.{values_at}
use Rattle.rank_state.specs.Machine.{State}
use Rattle.rank_state.specs.Ordered.{run_of, total_all}
use Rattle.kernel_model.specs.declared.types.faults.KernelFault.{KernelFault}
use Rattle.rank_program.specs.Constants.{Apart}
use Rattle.rank_exec.proofs.PutValues.{run_apart}
use Rattle.rank_exec.proofs.joins.run_one.Goals as goal

pub returns-clause-ran : goal.returns-clause-ran
returns-clause-ran c = record {
  spans = c.deref-2.result.now;
  indices = c.push_owned_windows-indices.result.now;
  are = subst (λ ss. AreOwned (setup_in c.args.program.now) (layout_in c.args.program.now) (tables_in c.args.program.now) c.args.item
      c.args.element ss c.push_owned_windows-indices.result.now) (sym c.deref-2.ensures.value) c.push_owned_windows-indices.ensures.are;
  fault_is = c.run_one_on.ensures.fault;
  state_is = c.run_one_on.ensures.state;
}

pub returns-clause-stay : goal.returns-clause-stay
returns-clause-stay c stay =
    let x = c.args.program.now in
    let cs = (tables_in x).constants in
    let is = c.push_owned_windows-indices.result.now in
    let spans = c.deref-2.result.now in
    let old = c.args.machine.now in
    let apart : Apart is cs =
    subst (λ l. Apart is l) c.is_sound.ensures.made.constants (subst (λ l. Apart l x.tables.constants.items) (sym c.push_owned_windows-indices.ensures.indices) stay) in
    ap (λ (s : State KernelFault). values_at s.variables cs) c.run_one_on.ensures.state
    ∙ run_apart (total_all spans) is (run_of (layout_in x) (tables_in x) c.args.item c.args.element spans is old) old.variables cs apart
