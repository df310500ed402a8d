use Rattle.std.proofs.Common.{◌≡◌, ◌<◌, ◌&&◌, ℕ, length}
use Rattle.std.specs.Prelude.{not}
use Rattle.lemmas.specs.Below.{listed, row, rows}
use Rattle.mesh_decl.specs.Mesh.{dat_set, set_size}
use Rattle.bound_program.specs.Values.{bound_of}
use Rattle.chain_model.specs.Slices.{owns_pair}
use Rattle.chain_needs.specs.PairSets.{pairs_of}
use Rattle.chain_needs.proofs.chain_slices.lists.copies_of.Given as goal

abbrev pub invariant-loop-dat : goal.invariant-loop-dat
invariant-loop-dat l = record {
  count : length l.all.items ≡ l.dat;
  ranks : (d : ℕ) → d < l.dat → length (rows l.all.items d) ≡ l.owners.ranks;
  copies : (d r : ℕ) → d < l.dat → r < l.owners.ranks
      → row (rows l.all.items d) r ≡ listed (set_size (bound_of l.bound).mesh (dat_set (bound_of l.bound).mesh d))
      (λ y. pairs_of l.needed r d y && not (owns_pair (bound_of l.bound) l.owners r d y));
}
