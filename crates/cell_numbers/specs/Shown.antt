-- When there are numbers for the elements of a set, and which.
use Rattle.std.specs.Prelude.{◌≡◌, ℕ, ◌<◌, ◌≤◌, true, List, length, slice_index}
use Rattle.mesh_decl.specs.declared.owners.Perms.{Perms}
use Rattle.mesh_decl.specs.Mesh.{set_size}
use Rattle.mesh_decl.specs.Owners.{AreOwners, ArePerms}
use Rattle.bound_program.specs.Values.{BoundValue}
use Rattle.bound_program.specs.Fits.{site_at}
use Rattle.partition.specs.declared.distribute.types.Distribution.{Distribution}
use Rattle.partition.specs.Distributions.{IsDistribution}
use Rattle.loop_plan.specs.Values.{PlanValue}
use Rattle.loop_plan.specs.Places.{runs_free}
use Rattle.loop_plan.specs.Proper.{Proper}
use Rattle.cell_numbers.specs.declared.types.Shown.{Shown}
use Rattle.cell_numbers.specs.declared.types.Shown.TheVariants as shown
use Rattle.cell_numbers.specs.declared.types.ShownRefusal.{ShownRefusal}
use Rattle.cell_numbers.specs.declared.types.ShownRefusal.TheVariants as refusal
use Rattle.cell_numbers.specs.Numbers.{HasNumber}

-- the mesh on ranks, by owners of its own and some new numbers, and a plan of the program there
pub record IsOnRanks (b : BoundValue) (d : Distribution) (p : PlanValue) : Type 0 where
  pub owners : AreOwners b.mesh d.owners
  pub numbers : Perms
  pub perms : ArePerms b.mesh numbers
  pub distributed : IsDistribution b.mesh d.owners numbers d
  pub planned : Proper b d.ranks.items p

-- the loop runs as a Free one
abbrev pub IsFreeRun : BoundValue → (site : ℕ) → Type 0
IsFreeRun b site = (site < length b.sites) × (runs_free b site ≡ true)

-- why the loop doesn't run over this set as a Free one
abbrev pub IsNoLoop : BoundValue → (site set : ℕ) → ShownRefusal → Type 0
IsNoLoop b site set refusal.NoLoop = ¬ IsFreeRun b site
IsNoLoop b site set refusal.OtherSet = IsFreeRun b site × ¬ ((site_at b site).set ≡ set)
IsNoLoop b site set e = ⊥

module _ (b : BoundValue) (d : Distribution) where
  -- what is asked for is there of this set: the rank; the loop, which runs over the set as a Free one
  abbrev pub IsThere : Shown → (set : ℕ) → Type 0
  IsThere shown.Owners set = Unit {0}
  IsThere (shown.Halos r) set = r < d.owners.ranks
  IsThere (shown.Colours site) set = IsFreeRun b site × ((site_at b site).set ≡ set)

  -- why it isn't there
  abbrev pub IsNotThere : Shown → (set : ℕ) → ShownRefusal → Type 0
  IsNotThere (shown.Halos r) set refusal.NoRank = d.owners.ranks ≤ r
  IsNotThere (shown.Colours site) set e = IsNoLoop b site set e
  IsNotThere w set e = ⊥

  -- the numbers of the elements of a set, in order
  pub record AreNumbers (p : PlanValue) (w : Shown) (set : ℕ) (numbers : List ℕ) : Type 0 where
    pub there : IsThere w set
    pub count : length numbers ≡ set_size b.mesh set
    pub each : (x : ℕ) → x < set_size b.mesh set → HasNumber b.mesh d.owners d.ranks.items p w set x (slice_index numbers x)

  -- there are none, for this cause; want of memory alone is free
  abbrev pub IsUnshown : Shown → (set : ℕ) → ShownRefusal → Type 0
  IsUnshown w set refusal.OutOfMemory = Unit {0}
  IsUnshown w set e = IsNotThere w set e
