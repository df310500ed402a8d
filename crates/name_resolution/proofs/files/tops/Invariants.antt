use Rattle.std.proofs.Common.{◌≡◌, ◌++◌, map, drop}
use Rattle.c_tree.specs.View.{top_of}
use Rattle.name_resolution.specs.First.{least_from}
use Rattle.kernel_model.specs.View.{rkernel_of}
use Rattle.name_resolution.specs.Numbers.{KernelsFit}
use Rattle.name_resolution.specs.Programs.{constant_cells, after_tops, tops_breaches, kernels}
use Rattle.name_resolution.proofs.files.tops.Given as goal

abbrev pub invariant-loop-part : goal.invariant-loop-part
invariant-loop-part l = record {
  names : after_tops l.named.keys l.walk.names.entries (map top_of (drop l.part-index l.parts)) ≡ after_tops l.named.keys l.initial.walk.names.entries (map top_of l.parts);
  cells : constant_cells l.walk.names.entries ≡ l.walk.constant_cells;
  kernels : map rkernel_of l.walk.kernels.items ++ kernels l.named.keys l.places l.walk.names.entries
      (map top_of (drop l.part-index l.parts)) ≡ map rkernel_of l.initial.walk.kernels.items ++ kernels l.named.keys l.places
      l.initial.walk.names.entries (map top_of l.parts);
  fits : KernelsFit (map rkernel_of l.walk.kernels.items);
  first : least_from l.walk.first (tops_breaches l.named.keys l.walk.names.entries (map top_of (drop l.part-index l.parts))) ≡ least_from
      l.initial.walk.first (tops_breaches l.named.keys l.initial.walk.names.entries (map top_of l.parts));
}
