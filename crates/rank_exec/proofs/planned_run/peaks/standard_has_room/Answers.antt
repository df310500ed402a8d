use Rattle.rank_exec.proofs.planned_run.StandardPeak.{few_open, few_under_way}
use Rattle.rank_exec.proofs.planned_run.peaks.standard_has_room.Goals as goal

pub returns-clause-frames : goal.returns-clause-frames
returns-clause-frames c = λ o g m pos few. few_open c.runs_are_windows.ensures o g m pos few

pub returns-clause-mail : goal.returns-clause-mail
returns-clause-mail c = λ o g m cells few. few_under_way o g m cells few
