use Rattle.std.proofs.Common.{◌<◌, ◌^◌, length, arith}
use Rattle.answers.proofs.laws.Exist as law
use Rattle.answers.proofs.laws.FewItems.{heads_are_short}
use Rattle.answers.proofs.laws.PlansExist as plans
use Rattle.answers.proofs.laws.SchedulesExist as schedules
use Rattle.answers.proofs.laws.laws.answers_exist.Goals as goal

pub returns : goal.returns
returns c =
    law.answers_exist c.some_outcome.ensures c.some_answer.ensures.some c.some_answer.ensures.causes c.some_answer.ensures.kernels
    c.deep_is_far.ensures c.refusals_have_causes.ensures c.one_outcome-2.ensures.some c.one_outcome-2.ensures.causes
    c.one_outcome.ensures c.one_depth.ensures.same c.one_depth.ensures.both c.walk_finds.ensures c.rules_are_broken.ensures.obeys
    c.rules_are_broken.ensures.first suits
    (plans.planned_exist c.some_numbers.ensures c.some_owners.ensures c.outcomes_fit.ensures c.narrow_meshes_fit_memory.ensures
    c.some_distribution.ensures c.some_plan.ensures c.some_outcome-2.ensures c.one_outcome-3.ensures.causes steps c.heads_fit.ensures c.tails_fit.ensures c.some_state.ensures)
    (plans.chains_exist c.some_numbers.ensures c.some_owners.ensures c.outcomes_fit.ensures c.narrow_meshes_fit_memory.ensures
    c.some_distribution.ensures c.some_plan.ensures c.some_outcome-2.ensures c.one_outcome-3.ensures.causes steps)
    c.options_are_within.ensures
  where
    suits : law.SourcesSuit
    suits bytes text p types es b within reads resolves spells is =
        let source = c.resolved_sources_are.ensures bytes p types reads resolves in
        let numbers = c.spelled_entries_fit.ensures text es spells in
        record {
          suits = record {
            fits = c.bound_programs_fit.ensures p types es b source numbers is;
            narrow = c.bound_maps_are_narrow.ensures p types es b source numbers is;
          };
          short = heads_are_short c.tokens_are_few.ensures bytes p types es b reads (let small : length bytes < 2 ^ 31 = omega (arith, within) in small) is;
        }

    steps : plans.SchedulesExist
    steps o = schedules.steps_exist c.taken_lists_are_accepted.ensures.whole o c.drawn_exists.ensures c.one_outcome-4.ensures.some c.one_outcome-4.ensures.causes
