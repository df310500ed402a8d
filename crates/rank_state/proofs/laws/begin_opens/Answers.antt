use Rattle.std.proofs.Common.{sym, ◌∙◌}
use Rattle.rank_state.proofs.Opening.{begin_opens, others_shut}
use Rattle.rank_state.proofs.laws.begin_opens.Goals as goal

pub returns-clause-own : goal.returns-clause-own
returns-clause-own g c p l t st f k r x h e = begin_opens p l k r x f (sym (h.panes k r x) ∙ e)

pub returns-clause-others : goal.returns-clause-others
returns-clause-others g c p l t old new f k r x y h i ne shut = others_shut p l t old new f k r x y h i ne shut
