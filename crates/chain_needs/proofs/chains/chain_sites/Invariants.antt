use Rattle.std.proofs.Common.{◌≡◌, ◌<◌, ◌++◌, ℕ, length, map, get_or}
use Rattle.bound_program.specs.Values.{bound_of}
use Rattle.bound_program.specs.Fits.{site_at}
use Rattle.chain_model.specs.Slices.{loops_from}
use Rattle.chain_needs.proofs.chains.chain_sites.Given as goal

abbrev pub invariant-loop-k : goal.invariant-loop-k
invariant-loop-k l = record {
  loops : map (site_at (bound_of l.bound)) l.sites.items ++ loops_from (bound_of l.bound) l.k ≡ loops_from (bound_of l.bound) l.item;
  there : (i : ℕ) → i < length l.sites.items → get_or l.sites.items i 0 < length (bound_of l.bound).sites;
}
