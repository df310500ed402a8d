use Rattle.bound_plan.proofs.given.kernels_and_frames.Goals as goal

pub returns : goal.returns
returns c = record {
  kernels = record {
    runs = c.elements_run_kernels.ensures;
    independent = c.element_runs_give_effects.ensures.independent;
    read = c.constants_are_read.ensures.read;
    range = c.loops_keep.ensures.range;
    reads = c.loops_keep.ensures.reads;
    first = c.values_stay_in_range.ensures.first;
    hosts = c.values_stay_in_range.ensures.hosts;
  };
  frames = record {
    windows = c.windows_are_reached.ensures;
    modified = c.windows_are_modified.ensures.exactly;
    on_windows = c.element_runs_on_windows.ensures;
    shape = c.shape_stays.ensures;
    constants = c.constants_are_read.ensures.numbered;
    acts = c.items_are_there.ensures.acts;
  };
}
