-- Sets of ranks that say what ranks need before the loops of a chain.
use Rattle.std.specs.Prelude.{◌≡◌, ◌<◌, ℕ, List, Vec}
use Rattle.std.specs.declared.alloc.Global.{Global}
use Rattle.local_mesh.specs.declared.rank_sets.rank_set.RankSet.{RankSet}
use Rattle.mesh_decl.specs.declared.owners.Owners.{Owners}
use Rattle.mesh_decl.specs.Mesh.{dat_count, dat_set, set_size}
use Rattle.bound_program.specs.Values.{BoundValue, SiteValue}
use Rattle.chain_model.specs.Slices.{needs_before}
use Rattle.chain_needs.specs.PairSets.{ArePairSets, pairs_of}

-- each pair's set has the ranks that need it before these loops
pub record AreNeeded (b : BoundValue) (o : Owners) (sites : List SiteValue) (sets : List (Vec RankSet Global)) : Type 0 where
  pub pairs : ArePairSets b.mesh sets
  pub has : (d y r : ℕ)
      → d < dat_count b.mesh
      → y < set_size b.mesh (dat_set b.mesh d)
      → pairs_of sets r d y ≡ needs_before b o r sites d y
