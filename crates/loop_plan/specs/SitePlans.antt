-- The plans of loops.
use Rattle.std.specs.Prelude.{◌≡◌, ℕ, ◌<◌, ◌≤◌, true, List, length, map, nat_eq, slice_index, slice_index_or}
use Rattle.std.specs.Map.{lookup}
use Rattle.lemmas.specs.Below.{listed}
use Rattle.local_mesh.specs.declared.types.RankMesh.{RankMesh}
use Rattle.colouring.specs.declared.types.Colours.{Colours}
use Rattle.colouring.specs.Colours.{AreColours}
use Rattle.bound_program.specs.Values.{BoundValue}
use Rattle.bound_program.specs.Fits.{site_at}
use Rattle.loop_plan.specs.Values.{SitePlanValue, or_none}
use Rattle.loop_plan.specs.Places.{places_of, runs_free}
use Rattle.loop_plan.specs.Proper.{HasColours, IsSitePlan}

-- by rank: colours for each number of places, of at most 64 ranks
pub record IsByRank (l : SitePlanValue) : Type 0 where
  pub count : length l.places ≡ length l.colours
  pub few : length l.places ≤ 64

module _ (b : BoundValue) (meshes : List RankMesh) where
  -- the plan of loop s: by rank its places, and their least colours in blocks of this size
  pub record IsLeastPlan (size s : ℕ) (l : SitePlanValue) : Type 0 where
    pub places_count : length l.places ≡ length meshes
    pub places : (r : ℕ) → r < length meshes → slice_index l.places r ≡ places_of meshes (site_at b s) r
    pub colours_count : length l.colours ≡ length meshes
    pub colours : (r : ℕ) (d : Colours) → r < length meshes → HasColours b meshes AreColours size s r (slice_index_or l.colours r d)

module _ (b : BoundValue) where
  -- of the loops below n, those that run as Free ones have such plans, in order
  pub record ArePlansOf (IsPlan : ℕ → SitePlanValue → Type 0) (n : ℕ) (entries : List (ℕ × SitePlanValue)) : Type 0 where
    pub keys : map (λ e. e.0) entries ≡ listed n (runs_free b)
    pub plans : (s : ℕ) → s < n → runs_free b s ≡ true → IsPlan s (or_none (lookup (nat_eq s) entries))

-- the loops below n that run as Free ones have plans with least colours
abbrev pub ArePlans : BoundValue → List RankMesh → ℕ → ℕ → List (ℕ × SitePlanValue) → Type 0
ArePlans b meshes size n entries = ArePlansOf b (IsLeastPlan b meshes size) n entries

-- the loops below n that run as Free ones have plans whose colours keep conflicts apart
abbrev pub AreSitePlans : BoundValue → List RankMesh → ℕ → ℕ → List (ℕ × SitePlanValue) → Type 0
AreSitePlans b meshes size n entries = ArePlansOf b (IsSitePlan b meshes size) n entries
