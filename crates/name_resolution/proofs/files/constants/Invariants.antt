use Rattle.std.proofs.Common.{◌≡◌, ◌++◌, drop}
use Rattle.name_resolution.specs.Programs.{constants}
use Rattle.name_resolution.proofs.files.constants.Given as goal

abbrev pub invariant-loop-number : goal.invariant-loop-number
invariant-loop-number l = l.constants.items ++ constants (drop l.number l.names.entries) ≡ constants l.names.entries
