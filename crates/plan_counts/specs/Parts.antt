-- Parts of the counting.
use Rattle.std.specs.Prelude.{ℕ, ◌+◌, Bool, false, cond, nat_eq, List, length, slice_index_or}
use Rattle.local_mesh.specs.declared.types.RankMesh.{RankMesh}
use Rattle.bound_program.specs.declared.sites.Arg.{Arg}
use Rattle.bound_program.specs.declared.sites.Arg.TheVariants.{Dat, Global}
use Rattle.bound_program.specs.Values.{ItemValue, BoundValue}
use Rattle.loop_plan.specs.declared.exchange.LoopRun.{LoopRun}
use Rattle.loop_plan.specs.declared.exchange.LoopRun.TheVariants as run
use Rattle.loop_plan.specs.Values.{ItemPlanValue}
use Rattle.plan_counts.specs.Counts.{over, one_if_some, runs_of, exchanges_of, messages_of, cells_of}
use Rattle.plan_counts.specs.declared.tallies.Tally.{Tally}
use Rattle.plan_counts.specs.declared.types.LoopCounts.{LoopCounts}
use Rattle.plan_counts.specs.declared.totals.Totals.{Totals}

-- nothing is counted
abbrev pub no_tally : Tally
no_tally = record { runs = 0; exchanges = 0; messages = 0; cells = 0 }

-- the tally of a loop
abbrev pub tally_in : List Tally → ℕ → Tally
tally_in tallies s = slice_index_or tallies s no_tally

-- the sums of two
abbrev pub plus : Tally → Tally → Tally
plus a b = record {
  runs = a.runs + b.runs;
  exchanges = a.exchanges + b.exchanges;
  messages = a.messages + b.messages;
  cells = a.cells + b.cells;
}

-- what a run of a Free loop does, whose messages have so many cells
abbrev pub free_tally : ItemPlanValue → (cells : ℕ) → Tally
free_tally p cells = record { runs = 1; exchanges = one_if_some p.exchange; messages = length p.pairs; cells = cells }

-- what a run of an Ordered loop does
abbrev pub ordered_tally : Tally
ordered_tally = record { runs = 1; exchanges = 0; messages = 0; cells = 0 }

-- what an item does for a loop, by how it runs one
abbrev pub run_tally : (s : ℕ) → LoopRun → ItemPlanValue → (cells : ℕ) → Tally
run_tally s (run.Free n) p cells = cond (nat_eq n s) (free_tally p cells) no_tally
run_tally s (run.Ordered n) p cells = cond (nat_eq n s) ordered_tally no_tally
run_tally s run.No p cells = no_tally

-- what items do for a loop
abbrev pub items_tally : BoundValue → List RankMesh → (s : ℕ) → List ItemValue → List ItemPlanValue → Tally
items_tally b meshes s is ps = record {
  runs = over (runs_of s) is ps;
  exchanges = over (exchanges_of s) is ps;
  messages = over (messages_of s) is ps;
  cells = over (cells_of b meshes s) is ps;
}

-- the sums of no loop
abbrev pub no_totals : Totals
no_totals = record { runs = 0; exchanges = 0; messages = 0; cells = 0; owned = 0; repeated = 0; blocks = 0 }

-- sums with those of a further loop
abbrev pub with_loop : Totals → LoopCounts → Totals
with_loop t c = record {
  runs = t.runs + c.runs;
  exchanges = t.exchanges + c.exchanges;
  messages = t.messages + c.messages;
  cells = t.cells + c.cells;
  owned = t.owned + c.owned;
  repeated = t.repeated + c.repeated;
  blocks = t.blocks + c.blocks;
}

-- the argument is on this dat
abbrev pub is_on : ℕ → Arg → Bool
is_on d (Dat e v a) = nat_eq e d
is_on d (Global v a) = false
