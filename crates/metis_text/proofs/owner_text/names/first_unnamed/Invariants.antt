use Rattle.std.proofs.Common.{◌<◌, ℕ}
use Rattle.metis_text.specs.Written.{HasName}
use Rattle.metis_text.proofs.owner_text.names.first_unnamed.Given as goal

-- a text can name each set before
abbrev pub invariant-loop-set : goal.invariant-loop-set
invariant-loop-set l = (s : ℕ) → s < l.set → HasName l.mesh s
