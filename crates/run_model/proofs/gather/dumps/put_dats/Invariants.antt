use Rattle.std.proofs.Common.{◌≡◌, ◌++◌}
use Rattle.run_model.specs.Grows.{Grows}
use Rattle.run_model.specs.Dump.{dats_text}
use Rattle.run_model.proofs.gather.dumps.put_dats.Given as goal

abbrev pub invariant-loop-dat : goal.invariant-loop-dat
invariant-loop-dat l = record {
  text : l.out.items ≡ l.fn.out.items ++ dats_text l.mesh l.rank l.part l.memory l.dat;
  grows : Grows l.fn.out.items l.out.items;
}
