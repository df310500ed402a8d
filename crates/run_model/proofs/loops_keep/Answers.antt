use Rattle.run_model.proofs.Elements.{loops_keep_range, loops_keep_reads}
use Rattle.run_model.proofs.loops_keep.Goals as goal

pub returns : goal.returns
returns c = record {
  range = loops_keep_range c.elements_run_kernels.ensures c.element_runs_keep.ensures.range;
  reads = loops_keep_reads c.elements_run_kernels.ensures c.element_runs_keep.ensures.reads;
}
