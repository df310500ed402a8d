use Rattle.std.proofs.Common.{◌≡◌, ◌<◌, ℕ, length}
use Rattle.schedule_check.specs.Mail.{imported_from}
use Rattle.plan_counts.specs.Imports.{tabled}
use Rattle.plan_counts.proofs.imports.all_imports.Given as goal

abbrev pub invariant-loop-set : goal.invariant-loop-set
invariant-loop-set l = record {
  count : length l.sets.items ≡ l.set;
  numbers : (t s r : ℕ) → t < l.set → s < length l.ranks → r < length l.ranks → tabled l.sets.items t s r ≡ imported_from l.ranks s r t;
}
