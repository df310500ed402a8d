use Rattle.std.proofs.Common.{◌-◌, length, map, drop}
use Rattle.bound_program.specs.Values.{bound_of}
use Rattle.bound_program.specs.Fits.{site_at}
use Rattle.chain_needs.specs.Needed.{AreNeeded}
use Rattle.chain_needs.proofs.needing.needed_before.Given as goal

abbrev pub invariant-loop-done : goal.invariant-loop-done
invariant-loop-done l = AreNeeded (bound_of l.bound) l.owners (map (site_at (bound_of l.bound)) (drop (length l.sites - l.done) l.sites)) l.needs.items
