use Rattle.std.proofs.Common.{◌≡◌, ◌||◌, ℕ, nat_eq, take}
use Rattle.std.specs.List.{list_any}
use Rattle.mesh_decl.specs.Owners.{owner_of}
use Rattle.local_mesh.specs.RankSet.{has}
use Rattle.bound_program.specs.Values.{bound_of}
use Rattle.chain_model.specs.Slices.{modifies_some}
use Rattle.chain_needs.specs.PairSets.{pairs_of}
use Rattle.chain_needs.proofs.executing.executing.Given as goal

abbrev pub invariant-loop-arg : goal.invariant-loop-arg
invariant-loop-arg l = (r : ℕ) → has l.ranks r ≡ (nat_eq (owner_of l.owners l.set l.element) r
    || list_any (modifies_some (bound_of l.bound) (pairs_of l.needs r) l.element) (take l.arg-index l.args))
