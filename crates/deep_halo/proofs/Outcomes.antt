-- What chains print is what the program prints, with the dump behind it.
use Rattle.std.proofs.Common.{◌≡◌, ◌<◌, ◌++◌, ℕ, [], List, Bool, true, false, Option, Some, None, is_some, Result, Ok, Err, IfOk, refl, sym, ap, ◌∙◌}
use Rattle.std.proofs.lemmas.Bool.{false≢true}
use Rattle.std.proofs.lemmas.List.{append-nil}
use Rattle.std.proofs.lemmas.Option.{none-some}
use Rattle.kernel_model.specs.declared.types.faults.KernelFault.{KernelFault}
use Rattle.mesh_decl.specs.declared.owners.Owners.{Owners}
use Rattle.schedule_model.specs.Sequential as model
use Rattle.bound_program.specs.Values.{BoundValue}
use Rattle.rank_state.specs.declared.rank_memory.stop.Stop.{Stop}
use Rattle.rank_state.specs.Stops.{stop_in}
use Rattle.chain_model.specs.Machine.{ChainState}
use Rattle.chain_model.specs.Dump.{stores_text}
use Rattle.chain_model.specs.Laws.{RunsAsProgram}
use Rattle.chain_model.specs.Outcomes.{chains_run, dump_after}
use Rattle.deep_halo.specs.Running.{StoresStand}
use Rattle.deep_halo.specs.Programs.{IsHolding}
use Rattle.deep_halo.specs.Runs.{IsRun, PrintsTheProgram}
use Rattle.deep_halo.specs.Stands.{Stands, Ends}
use Rattle.deep_halo.specs.declared.runs.ChainOutcome.{ChainOutcome}
use Rattle.deep_halo.specs.declared.state.State.{State}

pub prints_it : {E : Type 0} → (b : BoundValue) (o : Owners) (dump : Bool) (r : Result ChainOutcome E)
    → RunsAsProgram b o → IfOk r (IsRun b o dump) → IfOk r (PrintsTheProgram b o dump)
prints_it b o dump (Ok x) law run = record {
  output = run.output ∙ ap (λ z. z ++ dump_after b o dump (chains_run b o) (chains_run b o).stop) (sym (append-nil (chains_run b o).output) ∙ law.output);
  stop = run.stop ∙ law.stop;
}
prints_it b o dump (Err e) law run = run

-- ---- the end of a run

module _ (b : BoundValue) (o : Owners) (n : ℕ) (x : State) (st : ChainState KernelFault) where
  pub stop_is : (stop : Option Stop) → Ends b o n x stop st → stop_in stop ≡ st.stop
  stop_is None e = sym e.going
  stop_is (Some f) e = sym e.0

  output_is : (stop : Option Stop) → Ends b o n x stop st → x.out.items ≡ st.output
  output_is None e = sym e.output
  output_is (Some f) e = sym e.1

  -- without a dump
  no_dump : (dump : Bool) → dump ≡ false → dump_after b o dump st st.stop ≡ []
  no_dump true h = absurd (false≢true (sym h))
  no_dump false h = refl

  pub not_asked : (dump : Bool) (stop : Option Stop) → dump ≡ false → Ends b o n x stop st → x.out.items ≡ st.output ++ dump_after b o dump st st.stop
  not_asked dump stop h e = output_is stop e ∙ sym (append-nil st.output) ∙ ap (λ z. st.output ++ z) (sym (no_dump dump h))

  -- where it has stopped
  none_stopped : (dump : Bool) (s : Option (model.Stop KernelFault)) → is_some s ≡ true → dump_after b o dump st s ≡ []
  none_stopped dump None h = absurd (false≢true h)
  none_stopped true (Some f) h = refl
  none_stopped false (Some f) h = refl

  is_stop : (stop : Option Stop) → is_some stop ≡ true → is_some (stop_in stop) ≡ true
  is_stop None h = h
  is_stop (Some f) h = refl

  pub stopped : (dump : Bool) (stop : Option Stop) → is_some stop ≡ true → Ends b o n x stop st → x.out.items ≡ st.output ++ dump_after b o dump st st.stop
  stopped dump stop h e = output_is stop e ∙ sym (append-nil st.output)
      ∙ ap (λ z. st.output ++ z) (sym (none_stopped dump st.stop (ap is_some (sym (stop_is stop e)) ∙ is_stop stop h)))

  -- with a dump
  going : (stop : Option Stop) → is_some stop ≡ false → Ends b o n x stop st → Stands b o n x st
  going None h e = e
  going (Some f) h e = absurd (false≢true (sym h))

  dump_is : (dump : Bool) → dump ≡ true → (s : Option (model.Stop KernelFault)) → s ≡ None → dump_after b o dump st s ≡ stores_text b.mesh o.ranks st.stores
  dump_is true h None e = refl
  dump_is true h (Some f) e = absurd (none-some f (sym e))
  dump_is false h s e = absurd (false≢true h)

  pub asked : (dump : Bool) (stop : Option Stop) (out : List ℕ) → dump ≡ true → is_some stop ≡ false → Ends b o n x stop st
      → (StoresStand b o x.memory.items st → ((r : ℕ) → r < o.ranks → IsHolding b o x.begun r (st.stores r)) → out ≡ x.out.items ++ stores_text b.mesh o.ranks st.stores)
      → out ≡ st.output ++ dump_after b o dump st st.stop
  asked dump stop out h none e text =
      let s = going stop none e in
      text s.stores s.held ∙ ap (λ z. z ++ stores_text b.mesh o.ranks st.stores) (sym s.output)
      ∙ ap (λ z. st.output ++ z) (sym (dump_is dump h st.stop s.going))
