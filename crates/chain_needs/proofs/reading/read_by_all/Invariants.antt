use Rattle.std.proofs.Common.{◌≡◌, ◌||◌, ◌&&◌, ℕ, take}
use Rattle.std.specs.List.{list_any}
use Rattle.local_mesh.specs.RankSet.{has, has_at}
use Rattle.bound_program.specs.Values.{bound_of}
use Rattle.chain_model.specs.Slices.{reads_pair}
use Rattle.chain_needs.proofs.reading.read_by_all.Given as goal

abbrev pub invariant-loop-arg : goal.invariant-loop-arg
invariant-loop-arg l = (y r : ℕ) → has_at l.sets y r
    ≡ (has_at l.initial.sets y r || (has l.ranks r && list_any (reads_pair (bound_of l.bound) l.dat y l.element) (take l.arg-index l.args)))
