-- What a plan keeps, whoever chose its colours.
use Rattle.std.specs.Prelude.{◌≡◌, ◌≢◌, ℕ, ◌*◌, ◌<◌, ◌↔◌, true, List, Vec, length, map, slice_index, slice_index_or}
use Rattle.std.specs.declared.alloc.Global.{Global}
use Rattle.lemmas.specs.Below.{listed}
use Rattle.mesh_decl.specs.Mesh.{MeshValue}
use Rattle.local_mesh.specs.declared.types.RankMesh.{RankMesh}
use Rattle.colouring.specs.declared.types.IncArg.{IncArg}
use Rattle.colouring.specs.declared.types.Colours.{Colours}
use Rattle.colouring.specs.Colours.{BlocksConflict, ConflictWithin, AreColours}
use Rattle.schedule_steps.specs.Peaks.{step_count}
use Rattle.bound_program.specs.Values.{BoundValue}
use Rattle.bound_program.specs.Fits.{site_at}
use Rattle.loop_plan.specs.Values.{SitePlanValue, PlanValue, item_plan, site_plan}
use Rattle.loop_plan.specs.Needs.{AreExchanges}
use Rattle.loop_plan.specs.Pairs.{passes, pairs_below}
use Rattle.loop_plan.specs.Places.{reducing, places_of, maps_of, runs_free}
use Rattle.loop_plan.specs.StepOutline.{step_outline}

-- a colour for each block and place; conflicting blocks, and conflicting places of a block, have different ones
pub record Separate (g : MeshValue) (maps : List (Vec ℕ Global)) (args : List IncArg) (places size : ℕ) (c : Colours) : Type 0 where
  pub blocks_count : (a : ℕ) → (a < length c.blocks.items) ↔ (a * size < places)
  pub inner_count : length c.inner.items ≡ places
  pub blocks : (a e : ℕ) → a < length c.blocks.items → e < length c.blocks.items → a ≢ e
      → BlocksConflict g maps args places size a e
      → slice_index c.blocks.items a ≢ slice_index c.blocks.items e
  pub inner : (x y : ℕ) → x < places → y < places → x ≢ y
      → ConflictWithin g maps args size x y
      → slice_index c.inner.items x ≢ slice_index c.inner.items y

module _ (b : BoundValue) (meshes : List RankMesh) where
  -- Rank r has these colours for its places of loop s, in blocks of this size.
  abbrev pub HasColours : (MeshValue → List (Vec ℕ Global) → List IncArg → ℕ → ℕ → Colours → Type 0) → ℕ → ℕ → ℕ → Colours → Type 0
  HasColours IsOf size s r c = IsOf b.mesh (maps_of meshes r) (reducing (site_at b s).args) (places_of meshes (site_at b s) r) size c

  -- the plan of loop s: by rank its places, and colours that keep conflicts apart
  pub record IsSitePlan (size s : ℕ) (l : SitePlanValue) : Type 0 where
    pub places_count : length l.places ≡ length meshes
    pub places : (r : ℕ) → r < length meshes → slice_index l.places r ≡ places_of meshes (site_at b s) r
    pub colours_count : length l.colours ≡ length meshes
    pub colours : (r : ℕ) (d : Colours) → r < length meshes → HasColours Separate size s r (slice_index_or l.colours r d)

  -- The exchanges, messages and places are those of the program on these ranks, and the colours keep conflicts apart.
  pub record Proper (p : PlanValue) : Type 0 where
    pub ranks : p.ranks ≡ length meshes
    pub block : 0 < p.block
    pub steps : p.steps ≡ step_count (step_outline b meshes p)
    pub items : length p.items ≡ length b.trace
    pub exchanges : AreExchanges b p
    pub pairs : (k : ℕ) → k < length b.trace
        → (item_plan p k).pairs ≡ pairs_below (passes b.mesh meshes (item_plan p k).exchange) p.ranks p.ranks
    pub sites : map (λ e. e.0) p.sites ≡ listed (length b.sites) (runs_free b)
    pub loops : (s : ℕ) → s < length b.sites → runs_free b s ≡ true → IsSitePlan p.block s (site_plan p s)

  -- the colours are the least that no earlier one in conflict has
  abbrev pub HasLeastColours : PlanValue → Type 0
  HasLeastColours p =
      (s r : ℕ) (d : Colours) → s < length b.sites → runs_free b s ≡ true → r < length meshes
      → HasColours AreColours p.block s r (slice_index_or (site_plan p s).colours r d)
