use Rattle.std.proofs.Common.{◌≡◌, ◌≤◌, ◌*◌, length}
use Rattle.mesh_decl.specs.Mesh.{dat_set}
use Rattle.loop_plan.specs.Counted.{sum_below}
use Rattle.rank_layout.specs.Exports.{exported_locals}
use Rattle.rank_layout.proofs.rooms.pair_spans.Given as goal

abbrev pub invariant-loop-dat : goal.invariant-loop-dat
invariant-loop-dat l =
    (l.spans ≡ sum_below (λ d. length (exported_locals l.lists (dat_set l.mesh d) l.from l.to)) l.dat) × (l.spans ≤ l.dat * 4294967295)
