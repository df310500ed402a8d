use Rattle.std.proofs.Common.{◌≡◌, ◌<◌, ℕ, false, length, get_or}
use Rattle.bound_program.specs.Values.{bound_of}
use Rattle.bound_program.specs.Fits.{site_at}
use Rattle.rank_layout.specs.Made.{FaultsFirst}
use Rattle.rank_layout.proofs.fault_table.loop_faults_first.Given as goal

abbrev pub invariant-loop-site : goal.invariant-loop-site
invariant-loop-site l = record {
  count : length l.first.items ≡ l.site-index;
  each : (s : ℕ) → s < l.site-index → FaultsFirst (bound_of l.bound) (site_at (bound_of l.bound) s) (get_or l.first.items s false);
}
