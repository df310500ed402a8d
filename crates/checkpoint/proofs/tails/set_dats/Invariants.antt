use Rattle.std.proofs.Common.{◌≡◌, ◌<◌, ◌≤◌, ℕ, [], length, get_or, vec_len}
use Rattle.mesh_decl.specs.Mesh.{dat_count, dat_values}
use Rattle.checkpoint.specs.Cut.{with_dats}
use Rattle.checkpoint.proofs.tails.set_dats.Given as goal

abbrev pub invariant-loop-last : goal.invariant-loop-last
invariant-loop-last l = record {
  count : l.dat ≡ length l.values.items;
  few : l.dat ≤ dat_count l.mesh;
  lengths : (d : ℕ) → d < length l.values.items → length (get_or l.values.items d []) ≡ length (dat_values l.mesh d);
  rest : record l.mesh { dats = with_dats l.mesh.dats l.values.items } ≡ record l.initial.mesh { dats = with_dats l.initial.mesh.dats l.initial.values.items };
}

abbrev pub decreases-loop-last : goal.decreases-loop-last
decreases-loop-last l = vec_len l.values
