use Rattle.std.proofs.Common.{◌≡◌, ◌⊎◌, ℕ, Contains}
use Rattle.job_inputs.specs.declared.known_uses.ArgUse.{ArgUse}
use Rattle.job_inputs.specs.Known.{use_of}
use Rattle.job_inputs.proofs.known_uses.note_uses.Given as goal

abbrev pub invariant-loop-param : goal.invariant-loop-param
invariant-loop-param l =
    (u : ArgUse) → Contains l.known.keys u → Contains l.initial.known.keys u ⊎ ((a : ℕ) × (u ≡ use_of l.kernel l.modes a))
