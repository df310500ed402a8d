use Rattle.std.proofs.Common.{◌≡◌, ◌++◌, Bool, true, false, List, ℕ, Option, Some, None, refl, sym, ap, ap₂, ◌∙◌, append-nil}
use Rattle.kernel_model.specs.declared.types.faults.KernelFault.{KernelFault}
use Rattle.mesh_decl.specs.declared.owners.Owners.{Owners}
use Rattle.schedule_model.specs.Sequential.{Stop}
use Rattle.bound_program.specs.Values.{BoundValue, bound_of, no_site}
use Rattle.run_model.specs.Programs.{printed, first_fault}
use Rattle.bound_plan.specs.Memories.{unless_stopped}
use Rattle.chain_model.specs.Outcomes.{chains_run, dump_after}
use Rattle.chain_model.specs.Laws.{Chainable}
use Rattle.answers.specs.Answers.{ran}
use Rattle.job_inputs.proofs.Public.{if_ok_weaker}
use Rattle.op2_command.proofs.chains.chain_answer.Goals as goal

-- behind a stop there is no dump
behind_stop : (b : BoundValue) (o : Owners) (dumps : Bool) (bytes : List ℕ) (x : Option (Stop KernelFault))
    → bytes ++ dump_after b o dumps (chains_run b o) x ≡ unless_stopped x bytes (dump_after b o dumps (chains_run b o) None)
behind_stop b o dumps bytes None = refl
behind_stop b o true bytes (Some x) = append-nil bytes
behind_stop b o false bytes (Some x) = append-nil bytes

pub returns : goal.returns
returns c =
    let b = bound_of c.args.bound.now in
    let o = c.args.owners.now in
    let chainable : Chainable b o = record {
      fits = c.requires.fits;
      owners = c.requires.owners;
      memory = c.narrow_meshes_fit_memory.ensures b.mesh c.requires.fits.mesh c.requires.narrow;
      obey = λ n f lt at. c.requires.obeyed n no_site lt f at;
      start = c.requires.start;
    } in
    let prints = c.in_ok-outcome-in-RunsChains.ensures.sequential chainable in
    let machine = c.in_ok-outcome-in-RunsChains.ensures.machine in
    let stop = sym machine.stop ∙ prints.stop in
    let out =
    prints.output
    ∙ ap (λ x. printed b ++ dump_after b o c.args.dumps (chains_run b o) x) stop
    ∙ behind_stop b o c.args.dumps (printed b) (first_fault b)
    in
    rw c.in-RunsChains.is (if_ok_weaker c.ran.result _ _
    (λ a e. e ∙ ap₂ (ran 0) prints.stop out ∙ sym (c.runs_answer_on_cells.ensures 0 b c.requires.fits _))
    c.ran.ensures)
