use Rattle.std.proofs.Common.{◌≡◌, ℕ, length, take}
use Rattle.std.specs.Prelude.{false, ◌&&◌, not, nat_eq, slice_index_or}
use Rattle.std.specs.List.{list_any}
use Rattle.loop_plan.proofs.exchange.cleanse_each.Given as goal

abbrev pub invariant-loop-dat : goal.invariant-loop-dat
invariant-loop-dat l = (length l.dirty ≡ length l.initial.dirty)
    × ((d : ℕ) → slice_index_or l.dirty d false ≡
    (slice_index_or l.initial.dirty d false && not (list_any (nat_eq d) (take l.dat-index l.dats))))
