use Rattle.std.proofs.Common.{◌≡◌, ℕ, length, drop}
use Rattle.bound_program.specs.Values.{bound_of}
use Rattle.loop_plan.specs.Values.{plan_of}
use Rattle.plan_counts.specs.Parts.{tally_in, plus, items_tally}
use Rattle.plan_counts.proofs.tallies.tallies_of.Given as goal

-- with what the items that are left do, each loop's tally is that of all
abbrev pub invariant-loop-item : goal.invariant-loop-item
invariant-loop-item l = record {
  count : length l.tallies.items ≡ length (bound_of l.bound).sites;
  rest : (s : ℕ)
      → plus (tally_in l.tallies.items s) (items_tally (bound_of l.bound) l.ranks s (drop l.item (bound_of l.bound).trace) (drop l.item (plan_of l.plan).items))
      ≡ items_tally (bound_of l.bound) l.ranks s (bound_of l.bound).trace (plan_of l.plan).items;
}
