use Rattle.std.proofs.Common.{◌≡◌, ◌++◌, ◌+◌, map, length}
use Rattle.run_model.specs.Grows.{Grows}
use Rattle.run_model.specs.Dump.{ranks_text, AreHeld}
use Rattle.run_model.proofs.gather.dumps.put_ranks.Given as goal

abbrev pub invariant-loop-left : goal.invariant-loop-left
invariant-loop-left l = record {
  held : AreHeld l.mesh l.left (map (λ v. v.items) l.buffers);
  text : l.out.items ++ ranks_text l.mesh l.rank l.left (map (λ v. v.items) l.buffers)
      ≡ l.fn.out.items ++ ranks_text l.mesh 0 l.ranks (map (λ v. v.items) l.memories);
  count : l.rank + length l.left ≡ length l.ranks;
  grows : Grows l.fn.out.items l.out.items;
}

abbrev pub decreases-loop-left : goal.decreases-loop-left
decreases-loop-left l = length l.left
