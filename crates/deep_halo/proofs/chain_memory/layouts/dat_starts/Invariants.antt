use Rattle.bound_program.specs.Values.{bound_of}
use Rattle.deep_halo.specs.Layouts.{AreDatStarts}
use Rattle.deep_halo.proofs.chain_memory.layouts.dat_starts.Given as goal

abbrev pub invariant-loop-dat : goal.invariant-loop-dat
invariant-loop-dat l = AreDatStarts (bound_of l.bound) l.dat l.starts.items l.next
