use Rattle.answers.proofs.laws.Agreed as law
use Rattle.answers.proofs.laws.PlansAgree as plans
use Rattle.answers.proofs.laws.ChainsAgree as chains
use Rattle.answers.proofs.laws.Colourings.{PlanLaws}
use Rattle.answers.proofs.laws.Stretches.{StateLaws}
use Rattle.answers.proofs.laws.laws.answers_agree.Goals as goal

pub returns : goal.returns
returns c =
    law.answers_agree c.kernels_are_trees.ensures.walks c.one_program.ensures.kernels
    c.one_outcome-2.ensures.one c.one_outcome.ensures c.one_tree.ensures c.one_answer.ensures c.walk_finds.ensures
    c.rules_are_broken.ensures.obeys c.rules_are_broken.ensures.first
    (plans.plans_alike c.runs_answer_on_cells.ensures c.one_program.ensures.programs c.one_dump.ensures plan_laws c.one_plan.ensures schedules c.one_numbers.ensures
    c.one_owners.ensures c.one_distribution.ensures c.one_plan_text.ensures states)
    (chains.chains_alike c.runs_answer_on_cells.ensures c.one_program.ensures.programs c.chains_are_one.ensures c.one_owners.ensures)
    c.options_are_within.ensures c.one_translation.ensures c.one_restoration.ensures
  where
    plan_laws : PlanLaws
    plan_laws = record {
      least_are_one = c.least_colours_are_one.ensures;
      one_step_count = c.one_step_count.ensures;
      refusals_are_one = c.one_refusal.ensures;
      none_is_refused = c.none_is_refused.ensures;
      told_are_alike = c.plans_are_alike.ensures;
      no_kernel_is_read = c.no_kernel_is_read.ensures;
    }

    states : StateLaws
    states = record {
      one_state = c.one_state.ensures.state;
      one_refusal = c.one_state.ensures.refusal;
      not_both = c.one_state.ensures.not_both;
    }

    schedules : plans.ScheduleLaws
    schedules = record {
      steps_decide = c.tests_decide.ensures.steps;
      missing_is = c.tests_decide.ensures.missing;
      left_is = c.tests_decide.ensures.left;
      one_read = c.one_outcome-3.ensures.one;
      drawn_once = c.drawn_once.ensures;
    }
