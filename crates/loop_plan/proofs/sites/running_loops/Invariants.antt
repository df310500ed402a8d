use Rattle.std.proofs.Common.{◌≡◌, ℕ, length, take, false}
use Rattle.std.specs.Prelude.{slice_index_or}
use Rattle.std.specs.List.{list_any}
use Rattle.bound_program.specs.Values.{bound_of}
use Rattle.loop_plan.specs.Places.{runs_loop}
use Rattle.loop_plan.proofs.sites.running_loops.Given as goal

abbrev pub invariant-loop-item : goal.invariant-loop-item
invariant-loop-item l =
    (length l.runs.items ≡ length (bound_of l.bound).sites)
    × ((s : ℕ) → slice_index_or l.runs.items s false ≡ list_any (runs_loop s) (take l.item (bound_of l.bound).trace))
