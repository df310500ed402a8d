use Rattle.std.proofs.Common.{◌≡◌, ◌<◌, ℕ, length}
use Rattle.std.specs.Prelude.{slice_index}
use Rattle.schedule_check.specs.Mail.{imported_from}
use Rattle.plan_counts.proofs.imports.imports_from.Given as goal

abbrev pub invariant-loop-to : goal.invariant-loop-to
invariant-loop-to l = record {
  count : length l.row.items ≡ l.to;
  numbers : (r : ℕ) → r < l.to → slice_index l.row.items r ≡ imported_from l.ranks l.from r l.set;
}
