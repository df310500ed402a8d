use Rattle.std.proofs.Common.{◌≡◌, false, get_or}
use Rattle.lemmas.specs.Below.{any_below}
use Rattle.partition.specs.Derive.{leads_to_known}
use Rattle.partition.proofs.next.map_to_known.Given as goal

abbrev pub invariant-loop-map : goal.invariant-loop-map
invariant-loop-map l = any_below l.map (leads_to_known l.mesh (λ s. get_or l.known s false) l.set) ≡ false
