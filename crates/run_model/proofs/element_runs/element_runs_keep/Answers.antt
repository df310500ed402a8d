use Rattle.run_model.proofs.element_runs.Lists.{keep_range, keep_reads}
use Rattle.run_model.proofs.element_runs.element_runs_keep.Goals as goal

pub returns-clause-range : goal.returns-clause-range
returns-clause-range c = keep_range c.range_stays.ensures

pub returns-clause-reads : goal.returns-clause-reads
returns-clause-reads c = keep_reads c.independence.ensures c.reads_stay.ensures c.reductions_commute.ensures
