-- A set of ranks for each pair of a dat and an element.
use Rattle.std.specs.Prelude.{◌≡◌, ◌<◌, ℕ, Bool, List, Vec, length, Option, Some, None}
use Rattle.std.specs.declared.alloc.Global.{Global}
use Rattle.local_mesh.specs.declared.rank_sets.rank_set.RankSet.{RankSet}
use Rattle.mesh_decl.specs.declared.access.Via.{Via}
use Rattle.mesh_decl.specs.Mesh.{MeshValue, dat_count, dat_set, set_size, map_count, map_from, map_to, map_dim}
use Rattle.local_mesh.specs.Sets.{sets_in, has_in}
use Rattle.bound_program.specs.declared.sites.Arg.{Arg}
use Rattle.bound_program.specs.declared.sites.Arg.TheVariants.{Dat, Global as Variable}

-- one for each element of each dat's set
pub record ArePairSets (g : MeshValue) (sets : List (Vec RankSet Global)) : Type 0 where
  pub count : length sets ≡ dat_count g
  pub lengths : (d : ℕ) → d < dat_count g → length (sets_in sets d) ≡ set_size g (dat_set g d)

-- the pairs whose sets have rank r
abbrev pub pairs_of : List (Vec RankSet Global) → ℕ → ℕ → ℕ → Bool
pairs_of sets r d y = has_in sets d y r

module _ (g : MeshValue) (e : ℕ) where
  -- what leads from element e to an element of the dat's set is there
  abbrev pub ViaLeads : ℕ → Option Via → Type 0
  ViaLeads d None = e < set_size g (dat_set g d)
  ViaLeads d (Some v) =
      (v.map < map_count g) × (e < set_size g (map_from g v.map)) × (v.index < map_dim g v.map) × (map_to g v.map ≡ dat_set g d)

  -- what element e reaches by the argument is there
  abbrev pub ArgLeads : Arg → Type 0
  ArgLeads (Dat d v a) = (d < dat_count g) × ViaLeads d v
  ArgLeads (Variable v a) = Unit {0}
