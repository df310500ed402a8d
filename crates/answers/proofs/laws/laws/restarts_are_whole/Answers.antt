use Rattle.answers.proofs.laws.Restarts as law
use Rattle.answers.proofs.laws.Stretches.{StateLaws}
use Rattle.answers.proofs.laws.laws.restarts_are_whole.Goals as goal

pub returns : goal.returns
returns c =
    law.restarts_are_whole (record {
      one_tree = c.one_tree.ensures;
      one_resolved = c.one_answer.ensures;
      one_read = c.one_outcome.ensures.one;
      on_cells = c.runs_answer_on_cells.ensures;
      programs_are_one = c.one_program.ensures.programs;
      states = states;
      cuts_are_read = c.cuts_are_read.ensures;
      heads_stop = c.heads_stop.ensures;
      heads_print = c.heads_print_states.ensures;
      tails_go_on = c.tails_go_on.ensures;
      keep_range = c.runs_keep_range.ensures;
      leave_constants = c.bound_programs_leave_constants.ensures;
      resolved_sources = c.resolved_sources_are.ensures;
      are_names = c.bound_names_are_names.ensures;
      plain = c.names_are_plain.ensures;
      undumped = c.heads_are_not_dumped.ensures;
    })
  where
    states : StateLaws
    states = record {
      one_state = c.one_state.ensures.state;
      one_refusal = c.one_state.ensures.refusal;
      not_both = c.one_state.ensures.not_both;
    }
