use Rattle.std.proofs.Common.{ℕ, List, ap, get_or}
use Rattle.mesh_decl.specs.Owners.{owner_of}
use Rattle.mesh_decl.proofs.owners.Owners.rank_of.Goals as goal

pub returns : goal.returns
unfolding owner_of
returns c = ap (λ (xs : List ℕ). get_or xs c.args.element 0) c.of_set.ensures
