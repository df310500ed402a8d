use Rattle.std.proofs.Common.{◌≡◌, ◌<◌, ℕ, length}
use Rattle.mesh_decl.specs.Mesh.{set_size, dat_set}
use Rattle.bound_program.specs.Values.{bound_of}
use Rattle.local_mesh.specs.Sets.{sets_in, has_in}
use Rattle.chain_model.specs.Slices.{owns_pair}
use Rattle.chain_needs.proofs.owning.own_sets.Given as goal

abbrev pub invariant-loop-dat : goal.invariant-loop-dat
invariant-loop-dat l = record {
  count : length l.all.items ≡ l.dat;
  lengths : (d : ℕ) → d < l.dat → length (sets_in l.all.items d) ≡ set_size (bound_of l.bound).mesh (dat_set (bound_of l.bound).mesh d);
  has : (d y r : ℕ) → d < l.dat → y < set_size (bound_of l.bound).mesh (dat_set (bound_of l.bound).mesh d)
      → has_in l.all.items d y r ≡ owns_pair (bound_of l.bound) l.owners r d y;
}
