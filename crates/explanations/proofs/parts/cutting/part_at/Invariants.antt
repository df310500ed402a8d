use Rattle.std.proofs.Common.{◌≡◌, drop}
use Rattle.explanations.specs.Cuts.{parts, parts_to_come}
use Rattle.explanations.proofs.parts.cutting.part_at.Given as goal

abbrev pub invariant-loop-passed : goal.invariant-loop-passed
invariant-loop-passed l = parts_to_come l.separator l.rest ≡ drop l.passed (parts l.separator l.bytes)
