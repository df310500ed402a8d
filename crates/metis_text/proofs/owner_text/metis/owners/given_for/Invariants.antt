use Rattle.std.proofs.Common.{◌≡◌, ℕ, false, length}
use Rattle.partition.specs.Derive.{is_given}
use Rattle.metis_text.proofs.owner_text.metis.owners.given_for.Given as goal

-- so many sets, and none is given
abbrev pub invariant-loop : goal.invariant-loop
invariant-loop l = record {
  count : length l.given.items ≡ l.counter;
  none : (s : ℕ) → is_given l.given.items s ≡ false;
}
