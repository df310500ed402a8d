use Rattle.std.proofs.Common.{◌≡◌, ◌++◌, drop}
use Rattle.std.specs.List.{flat_map}
use Rattle.bound_program.specs.Values.{bound_of}
use Rattle.loop_plan.specs.Values.{plan_of}
use Rattle.plan_counts.specs.Table.{row_text, loops_from, totals_of}
use Rattle.plan_counts.proofs.table.put_loops.Given as goal

-- with the lines of the loops that are left it is the whole, and the sums are those of the loops so far
abbrev pub invariant-loop-site : goal.invariant-loop-site
invariant-loop-site l = record {
  lines : l.out.items ++ flat_map (row_text l.plain) (loops_from (bound_of l.bound) l.ranks (plan_of l.plan) l.site (drop l.site (bound_of l.bound).sites))
      ≡ l.fn.out.items ++ flat_map (row_text l.plain) (loops_from (bound_of l.bound) l.ranks (plan_of l.plan) 0 (bound_of l.bound).sites);
  sums : l.totals ≡ totals_of (bound_of l.bound) l.ranks (plan_of l.plan) l.site;
}
