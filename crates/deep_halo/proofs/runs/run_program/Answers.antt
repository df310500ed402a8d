use Rattle.std.proofs.Common.{ℤ, List, not, length, subst, ap, sym, ◌∙◌}
use Rattle.chain_model.specs.Outcomes.{chains_run}
use Rattle.deep_halo.specs.Running.{StoresStand}
use Rattle.deep_halo.specs.Programs.{program_of_run, owners_of_run}
use Rattle.deep_halo.specs.Stands.{Ends}
use Rattle.deep_halo.specs.declared.state.State.{State}
use Rattle.deep_halo.proofs.Outcomes.{stop_is, not_asked, stopped, asked}
use Rattle.deep_halo.proofs.runs.run_program.Goals.{then-dump+then-is_none+in_ok-put_stores, else-dump, else-dump-via-then-dump+else-is_none, else-dump-via-else-dump}
use Rattle.deep_halo.proofs.runs.run_program.Goals as goal

pub returns : goal.returns
returns c =
    let b = program_of_run c.args.program.now in
    let o = owners_of_run c.args.program.now in
    let n = length b.trace in
    let x = c.run_items.new.state in
    let st = chains_run b o in
    let stop = c.in_ok-stop.stop in
    let ends : Ends b o n x stop st = c.in_ok-stop.ensures in record {
      output = elim c.if-dump.branch [
        | then-dump+then-is_none+in_ok-put_stores w ↦
            asked b o n x st c.args.dump stop c.if-dump.state.out.items w.if-dump.true (w.is_none.ensures ∙ ap not w.if-is_none.true) ends
            (λ stand held. ap (λ (y : State). y.out.items) w.state-is
            ∙ w.in_ok-put_stores.ensures st (subst (λ (l : List ℤ). StoresStand b o l st) (sym w.deref.ensures.value) stand) held)
        | else-dump w ↦
            (ap (λ (y : State). y.out.items) w.state-is ∙ elim w.else-dump.branch [
              | else-dump-via-then-dump+else-is_none v ↦ stopped b o n x st c.args.dump stop (v.is_none.ensures ∙ ap not v.if-is_none.false) ends
              | else-dump-via-else-dump v ↦ not_asked b o n x st c.args.dump stop v.if-dump.false ends
            ])
      ];
      stop = c.told.ensures ∙ stop_is b o n x st stop ends;
    }
