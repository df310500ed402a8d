use Rattle.std.proofs.Common.{◌≡◌}
use Rattle.lemmas.specs.Below.{count_below}
use Rattle.deep_halo.specs.Programs.{held_since, program_of_run, owners_of_run}
use Rattle.deep_halo.proofs.dumps.held_count.Given as goal

abbrev pub invariant-loop-element : goal.invariant-loop-element
invariant-loop-element l = l.count ≡ count_below l.element (held_since (program_of_run l.program) (owners_of_run l.program) l.begun l.rank l.dat)
