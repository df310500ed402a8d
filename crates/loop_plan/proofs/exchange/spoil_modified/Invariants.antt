use Rattle.std.proofs.Common.{◌≡◌, ℕ, length, drop, take}
use Rattle.std.specs.Prelude.{false, ◌||◌, slice_index_or}
use Rattle.bound_program.specs.Classes.{modifies}
use Rattle.loop_plan.specs.Needs.{AreOfDats}
use Rattle.loop_plan.proofs.exchange.spoil_modified.Given as goal

abbrev pub invariant-loop-arg : goal.invariant-loop-arg
invariant-loop-arg l = (length l.dirty ≡ length l.initial.dirty) × AreOfDats (length l.initial.dirty) (drop l.arg-index l.args)
    × ((d : ℕ) → slice_index_or l.dirty d false ≡ (slice_index_or l.initial.dirty d false || modifies (take l.arg-index l.args) d))
