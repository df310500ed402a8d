use Rattle.std.proofs.Common.{◌≡◌, ◌<◌, ℕ, false, length}
use Rattle.std.specs.Prelude.{slice_index_or}
use Rattle.schedule_check.proofs.places.core_of.Given as goal

abbrev pub invariant-loop-place : goal.invariant-loop-place
invariant-loop-place l = record {
  count : length l.cores.items ≡ l.place;
  cores : (x : ℕ) → x < l.place → slice_index_or l.cores.items x false ≡ slice_index_or l.core x false;
}
