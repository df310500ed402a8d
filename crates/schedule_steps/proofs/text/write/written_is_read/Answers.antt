use Rattle.std.proofs.Common.{◌≤◌, sym, subst}
use Rattle.schedule_steps.specs.declared.text.lines.TheConstants.{SCHEDULE_STEPS}
use Rattle.schedule_steps.proofs.text.Written.{spelled, lines_len}
use Rattle.schedule_steps.proofs.text.write.written_is_read.Goals as goal

pub returns-clause-spells : goal.returns-clause-spells
returns-clause-spells c = spelled c.number_is_read.ensures c.lines_are_cut.ensures

pub returns-clause-reads : goal.returns-clause-reads
returns-clause-reads c steps fit room = (spelled c.number_is_read.ensures c.lines_are_cut.ensures steps fit, subst (λ n. n ≤ SCHEDULE_STEPS) (sym (lines_len 2 steps)) room)
