use Rattle.std.proofs.Common.{◌≡◌, ◌≤◌, ◌<◌, ◌||◌, ◌&&◌, ℕ}
use Rattle.std.specs.List.{list_any}
use Rattle.lemmas.specs.Below.{any_below}
use Rattle.local_mesh.specs.RankSet.{has_at}
use Rattle.mesh_decl.specs.Mesh.{set_size}
use Rattle.bound_program.specs.Values.{bound_of}
use Rattle.bound_program.specs.Fits.{site_at}
use Rattle.local_mesh.specs.Sets.{sets_in, has_in}
use Rattle.chain_model.specs.Slices.{reads_pair}
use Rattle.chain_needs.specs.PairSets.{ArePairSets}
use Rattle.chain_needs.proofs.reading.read_dats.Given as goal

abbrev pub invariant-loop-dat : goal.invariant-loop-dat
invariant-loop-dat l = record {
  needs : ArePairSets (bound_of l.bound).mesh l.needs;
  done : (d y r : ℕ) → d < l.dat → has_in l.needs d y r
      ≡ (has_in l.initial.needs d y r || any_below (set_size (bound_of l.bound).mesh (site_at (bound_of l.bound) l.site).set)
      (λ e. has_at l.executing e r && list_any (reads_pair (bound_of l.bound) d y e) (site_at (bound_of l.bound) l.site).args));
  left : (d : ℕ) → l.dat ≤ d → sets_in l.needs d ≡ sets_in l.initial.needs d;
}
