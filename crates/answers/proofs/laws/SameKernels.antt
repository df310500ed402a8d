-- Kernels with the same trees, in bound programs that are the same but for these.
use Rattle.std.proofs.Common.{◌≡◌, ℕ, List, map, Option, Some, None, refl, sym, ap, ap₂, ◌∙◌}
use Rattle.kernel_model.specs.declared.types.kernels.RKernel.{RKernel}
use Rattle.kernel_model.specs.View.{rkernel_of}
use Rattle.kernel_model.specs.Obeys.{Mode}
use Rattle.kernel_model.specs.Trees.{WalksAlike}
use Rattle.kernel_model.specs.declared.types.faults.KernelFault.{KernelFault}
use Rattle.schedule_model.specs.Program.{Program}
use Rattle.schedule_model.specs.Sequential.{sequential}
use Rattle.bound_program.specs.Values.{BoundValue}
use Rattle.bound_program.specs.Fits.{Fits}
use Rattle.run_model.specs.Kernels.{kernel_at}
use Rattle.run_model.specs.Arguments.{modes_of}
use Rattle.run_model.specs.Programs.{printed_in, stop_in}
use Rattle.run_model.specs.SequentialLaws.{RunsAreOne}
use Rattle.bound_plan.specs.Memories.{unless_stopped}
use Rattle.bound_plan.specs.OneRun.{SameTree, with_kernels, KernelsAreOne, ProgramsAreOne}
use Rattle.command_words.specs.Lines.{Answer}
use Rattle.answers.specs.Answers.{ran, run_answer}
use Rattle.answers.specs.OnCells.{RunsAnswerOnCells}
use Rattle.answers.proofs.laws.Sites.{found_by, site_found, first_found, same_found}

module _ (walks_alike : WalksAlike) (kernels_are_one : KernelsAreOne) where
  same_by : (o p : Option RKernel) → SameTree o p → (modes : List Mode) → found_by o modes ≡ found_by p modes
  same_by None None h modes = refl
  same_by (Some k) (Some l) h modes = walks_alike k l h modes
  same_by None (Some l) h modes = absurd h
  same_by (Some k) None h modes = absurd h

  pub sites_found : (b : BoundValue) (ls : List RKernel) → map rkernel_of b.kernels ≡ map rkernel_of ls → first_found (site_found b) b.sites ≡ first_found (site_found (with_kernels b ls)) b.sites
  sites_found b ls e =
      same_found (site_found b) (site_found (with_kernels b ls))
      (λ site. same_by (kernel_at b.kernels site.kernel) (kernel_at ls site.kernel) (kernels_are_one b.kernels ls e site.kernel)
      (modes_of b site)) b.sites

-- what a program's run without ranks printed, and these bytes behind it where it has no fault
abbrev ran_by : ℕ → List ℕ → Program KernelFault → Answer
ran_by first dump p = ran first (stop_in (sequential p)) (unless_stopped (stop_in (sequential p)) (printed_in (sequential p)) dump)

pub runs_answer_on_cells : RunsAreOne → RunsAnswerOnCells
runs_answer_on_cells runs_are_one first b fits dump =
    ap₂ (λ x bytes. ran first x (unless_stopped x bytes dump)) (runs_are_one b fits).first_fault (runs_are_one b fits).printed

module _ (on_cells : RunsAnswerOnCells) (programs_are_one : ProgramsAreOne) (b : BoundValue) (ls : List RKernel)
    (same : map rkernel_of b.kernels ≡ map rkernel_of ls) (fits : Fits b) (others : Fits (with_kernels b ls)) where
  pub output_same : (first : ℕ) (dump : List ℕ) → run_answer first b dump ≡ run_answer first (with_kernels b ls) dump
  output_same first dump =
      on_cells first b fits dump ∙ ap (ran_by first dump) (programs_are_one b ls same) ∙ sym (on_cells first (with_kernels b ls) others dump)
