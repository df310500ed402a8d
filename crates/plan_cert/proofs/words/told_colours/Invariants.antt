use Rattle.std.proofs.Common.{◌≡◌, ◌++◌, List, ℕ, length}
use Rattle.plan_cert.specs.Awaited.{AreColours}
use Rattle.plan_cert.proofs.words.told_colours.Given as goal

abbrev pub invariant-loop-told : goal.invariant-loop-told
invariant-loop-told l = (seen : List (List ℕ)) × (l.fn.words ≡ seen ++ l.words) × AreColours seen l.found.items × (length l.found.items ≡ l.told)
