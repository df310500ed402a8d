use Rattle.std.proofs.Common.{◌-◌, length, map, drop}
use Rattle.bound_program.specs.Values.{bound_of}
use Rattle.bound_program.specs.Fits.{site_at}
use Rattle.chain_needs.specs.Needed.{AreNeeded}
use Rattle.chain_needs.specs.Levels.{AreBelow, AreLevels, front_of}
use Rattle.chain_needs.proofs.chain_slices.levels.levels_of.Given as goal

abbrev pub invariant-loop-done : goal.invariant-loop-done
invariant-loop-done l = record {
  levels : AreLevels (bound_of l.bound) l.owners (map (site_at (bound_of l.bound)) (drop (length l.sites - l.done) l.sites)) l.levels.items;
  front : AreNeeded (bound_of l.bound) l.owners (map (site_at (bound_of l.bound)) (drop (length l.sites - l.done) l.sites)) (front_of l.own.items l.levels.items);
  below : AreBelow l.owners.ranks (front_of l.own.items l.levels.items);
}
