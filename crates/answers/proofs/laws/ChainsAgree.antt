-- What is answered of chains is one, whatever the addresses of kernels and owners.
use Rattle.std.proofs.Common.{◌≡◌, ◌<◌, List, map, None, Result, Ok, Err, sym, ap, ◌∙◌, subst}
use Rattle.kernel_model.specs.declared.types.kernels.RKernel.{RKernel}
use Rattle.kernel_model.specs.View.{rkernel_of}
use Rattle.mesh_decl.specs.declared.owners.Owners.{Owners}
use Rattle.partition.specs.Parts.{Parts, OwnersRefusal}
use Rattle.partition.specs.Judgements.{OwnersAre}
use Rattle.partition.specs.Laws.{SameOwners, SameOutcome, OwnersAreOne}
use Rattle.bound_program.specs.Values.{BoundValue}
use Rattle.bound_program.specs.Fits.{Fits}
use Rattle.bound_plan.specs.OneRun.{with_kernels, ProgramsAreOne}
use Rattle.chain_model.specs.Outcomes.{chains_run, dump_after}
use Rattle.chain_model.specs.OneRun.{HaveOneText, ChainsAreOne}
use Rattle.op_outside.specs.Outside.{Files}
use Rattle.command_words.specs.Lines.{Answer, done, refused}
use Rattle.command_words.specs.Words.{ChainJob, CountsChains, RunsChains, ChainOptions}
use Rattle.answers.specs.Said.{SaysOwners}
use Rattle.answers.specs.Judgements.{PartsOf, OwnersOf}
use Rattle.answers.specs.Answers.{given, run_answer, chain_answer, ChainAnswers}
use Rattle.answers.specs.OnCells.{RunsAnswerOnCells}
use Rattle.answers.proofs.laws.Given.{given_both, given_alike}
use Rattle.answers.proofs.laws.SaidOnce.{owners_once}
use Rattle.answers.proofs.laws.SameKernels.{output_same}
use Rattle.answers.proofs.laws.SameBound.{IsSame}
use Rattle.answers.proofs.laws.PlansAgree.{parts_are_one}

module _ (on_cells : RunsAnswerOnCells) (programs_are_one : ProgramsAreOne) (chains_are_one : ChainsAreOne) (one_owners : OwnersAreOne) where
  module _ (j : ChainJob) (o : ChainOptions) (files : Files) (some : 0 < o.ranks) (b : BoundValue) (ks : List RKernel)
      (same : map rkernel_of b.kernels ≡ map rkernel_of ks) (fits : Fits b) (others : Fits (with_kernels b ks)) where
    abbrev c : BoundValue
    c = with_kernels b ks

    answers : (u v : Owners) → SameOwners u v → chain_answer j o.dumps b u ≡ chain_answer j o.dumps c v
    answers u v owned = by_job j
      where
        one : HaveOneText b ks u v
        one = chains_are_one b ks u v (record { kernels = same; ranks = owned.0; owners = owned.1 })

        by_job : (i : ChainJob) → chain_answer i o.dumps b u ≡ chain_answer i o.dumps c v
        by_job CountsChains = ap done one.text
        by_job RunsChains =
            ap (run_answer 0 b) (one.dump o.dumps None)
            ∙ output_same on_cells programs_are_one b ks same fits others 0 (dump_after c v o.dumps (chains_run c v) None)

    abbrev FromParts : BoundValue → Parts → Answer → Type 0
    FromParts d parts = given (OwnersOf o.ranks d parts) (λ u x. x ≡ chain_answer j o.dumps d u)

    owners_agree : (parts : Parts) (x y : Answer) → FromParts b parts x → FromParts c parts y → x ≡ y
    owners_agree parts =
        given_both (OwnersOf o.ranks b parts) (OwnersOf o.ranks c parts) (λ u x. x ≡ chain_answer j o.dumps b u) (λ u x. x ≡ chain_answer j o.dumps c u) (λ x y. x ≡ y)
        (λ r s h k. ap refused (owners_once h.0 r s h.2 (subst (λ e. SaysOwners e s) (sym (both (Err h.0) (Err k.0) h.1 k.1)) k.2)))
        (λ r v h k. both (Err h.0) (Ok v) h.1 k)
        (λ u s h k. both (Ok u) (Err k.0) h k.1)
        (λ u v h k x y e f. e ∙ answers u v (both (Ok u) (Ok v) h k) ∙ sym f)
      where
        both : (x y : Result Owners OwnersRefusal) → OwnersAre b.mesh o.ranks parts x → OwnersAre b.mesh o.ranks parts y → SameOutcome SameOwners x y
        both x y h k = one_owners b.mesh o.ranks parts x y fits.mesh some h k

    parts_agree : (x y : Answer) → given (PartsOf o.parting files) (FromParts b) x → given (PartsOf o.parting files) (FromParts c) y → x ≡ y
    parts_agree =
        let one = parts_are_one o.parting files in
        given_alike (PartsOf o.parting files) (FromParts b) (FromParts c) (λ x y. x ≡ y) (λ r s h k. ap refused (one.refusals r s h k)) one.apart one.values
        (λ parts h. owners_agree parts)

  pub chains_alike : (j : ChainJob) (o : ChainOptions) (files : Files) → 0 < o.ranks → (b c : BoundValue) → IsSame b c → (x y : Answer)
      → ChainAnswers j o files b x → ChainAnswers j o files c y → x ≡ y
  chains_alike j o files some b c same x y h k =
      let other = subst (λ d. ChainAnswers j o files d y) same.0 k in
      parts_agree j o files some b c.kernels same.1 h.0 other.0 x y h.1 other.1
