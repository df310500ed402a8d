use Rattle.std.proofs.Common.{◌≡◌, ◌<◌, ℕ, length}
use Rattle.schedule_check.specs.Mail.{imported_from}
use Rattle.plan_counts.specs.Imports.{number_in}
use Rattle.plan_counts.proofs.imports.imports_within.Given as goal

abbrev pub invariant-loop-from : goal.invariant-loop-from
invariant-loop-from l = record {
  count : length l.rows.items ≡ l.from;
  numbers : (s r : ℕ) → s < l.from → r < length l.ranks → number_in l.rows.items s r ≡ imported_from l.ranks s r l.set;
}
