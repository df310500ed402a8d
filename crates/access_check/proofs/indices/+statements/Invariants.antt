use Rattle.std.proofs.Common.{◌≡◌, ◌||◌, ℕ, drop}
use Rattle.access_check.specs.Indices.{names_of, stmt_names, list_names}
use Rattle.access_check.proofs.indices.+statements.Given as goal

abbrev pub invariant-loop-inner : goal.invariant-loop-inner
invariant-loop-inner l = (k : ℕ) → (list_names (drop l.inner-index l.inner-items) k || names_of l.named k) ≡ (stmt_names l.st k || names_of l.initial.named k)
