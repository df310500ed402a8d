-- Places of elements on their owners, and the blocks in which they lie.
use Rattle.std.proofs.Common.{◌≡◌, ◌≢◌, ℕ, ◌<◌, ◌≤◌, ◌*◌, ◌/◌, Bool, true, false, cond, sym, ap, subst, ◌∙◌, arith, List, [], length, map, get_or}
use Rattle.std.specs.Prelude.{slice_index, slice_index_or, Contains, ◌||◌}
use Rattle.std.proofs.lemmas.Bool.{eq-eqb}
use Rattle.std.proofs.lemmas.List.{get_or-map, get_or_default, length-map}
use Rattle.mesh_decl.specs.Mesh.{MeshValue, set_count, set_size}
use Rattle.mesh_decl.specs.declared.owners.Owners.{Owners}
use Rattle.mesh_decl.specs.Owners.{owner_of}
use Rattle.bound_program.specs.Values.{BoundValue, SiteValue, site_of, no_site}
use Rattle.bound_program.specs.declared.sites.Site.{Site}
use Rattle.bound_program.specs.Classes.{scatters}
use Rattle.bound_program.specs.Fits.{site_at}
use Rattle.partition.specs.declared.distribute.types.Distribution.{Distribution}
use Rattle.local_mesh.specs.Halo.{owns, has_copy, imports_execute, imports_nonexecute}
use Rattle.local_mesh.specs.declared.types.RankMesh.{RankMesh}
use Rattle.local_mesh.specs.declared.types.LocalSet.{LocalSet}
use Rattle.local_mesh.specs.LocalMesh.{originals_in, executed_in, IsRankMesh}
use Rattle.local_mesh.specs.Numbers.{own_in, OwnedComeFirst, OriginalsAreHeld}
use Rattle.local_mesh.specs.Lists.{sets_of, originals_of, IsLocal}
use Rattle.colouring.specs.declared.types.Colours.{Colours}
use Rattle.loop_plan.specs.declared.types.SitePlan.{SitePlan}
use Rattle.loop_plan.specs.Values.{PlanValue, SitePlanValue, site_plan, site_plan_of, block_colour_in}
use Rattle.loop_plan.specs.Places.{places_of}
use Rattle.loop_plan.specs.Proper.{IsSitePlan}
use Rattle.loop_plan.proofs.Public.{sets_at, own_within}
use Rattle.cell_numbers.specs.Numbers.{IsBlockColour}
use Rattle.cell_numbers.specs.Shown.{IsOnRanks, IsFreeRun}

-- the owner of an element owns it, so that it has it
owner_owns : (o : Owners) (s x r : ℕ) → r ≡ owner_of o s x → owns o s x r ≡ true
unfolding owns
owner_owns o s x r e = eq-eqb (owner_of o s x) r (sym e)

owner_has : (g : MeshValue) (o : Owners) (s x r : ℕ) → r ≡ owner_of o s x → has_copy g o s x r ≡ true
owner_has g o s x r e = ap (λ b. b || (imports_execute g o s x r || imports_nonexecute g o s x r)) (owner_owns o s x r e)

-- what is owned is executed
owned_executed : (c : Bool) (l own executed : ℕ) → l < own → own ≤ executed → l < cond c executed own
owned_executed true l own executed lo le = omega (arith, lo, le)
owned_executed false l own executed lo le = lo

-- a loop's set, as code reads it
pub set_read : (sites : List Site) (s : ℕ) (x : Site) → s < length (map site_of sites) → x ≡ get_or sites s x
    → x.set ≡ (slice_index_or (map site_of sites) s no_site).set
set_read sites s x l e =
    ap (λ (z : Site). z.set) e
    ∙ sym (ap (λ (z : SiteValue). z.set) (get_or-map site_of sites s x no_site (subst (λ (n : ℕ). s < n) (length-map sites site_of) l)))

module _ (b : BoundValue) (d : Distribution) (p : PlanValue) (on : IsOnRanks b d p) where
  -- a rank's local mesh
  pub rank_here : (r : ℕ) → r < d.owners.ranks → r < length d.ranks.items
  rank_here r l = subst (λ (n : ℕ). r < n) (sym on.distributed.ranks.count) l

  pub owner_here : (s x r : ℕ) → s < set_count b.mesh → x < set_size b.mesh s → r ≡ owner_of d.owners s x → r < d.owners.ranks
  owner_here s x r ls lx e = subst (λ (n : ℕ). n < d.owners.ranks) (sym e) (on.owners.below s x ls lx)

  pub rank_mesh : (r : ℕ) (m : RankMesh) → r < d.owners.ranks → m ≡ get_or d.ranks.items r m → IsRankMesh b.mesh d.owners on.numbers r m
  rank_mesh r m l e = subst (λ (z : RankMesh). IsRankMesh b.mesh d.owners on.numbers r z) (sym e) (on.distributed.ranks.ranks r m l)

  sets_here : (r : ℕ) (m : RankMesh) → r < d.owners.ranks → m ≡ get_or d.ranks.items r m → m.sets.items ≡ sets_of d.ranks.items r
  sets_here r m l e = ap (λ (z : RankMesh). z.sets.items) e ∙ sets_at d.ranks.items r m (rank_here r l)

  -- the owner of an element has it
  pub is_held : OriginalsAreHeld → (s x r : ℕ) (m : RankMesh)
      → s < set_count b.mesh → x < set_size b.mesh s → r ≡ owner_of d.owners s x → m ≡ get_or d.ranks.items r m
      → ((k : ℕ) → k < length (originals_in m.sets.items s) → slice_index (originals_in m.sets.items s) k ≢ x) → ⊥
  is_held held s x r m ls lx er em none =
      let here : r < d.owners.ranks = owner_here s x r ls lx er in
      let found : Contains (originals_in m.sets.items s) x =
      (held b.mesh d.owners on.numbers r m on.perms (rank_mesh r m here em) s x ls).1 (lx, owner_has b.mesh d.owners s x r er) in
      none found.0 found.1 (get_or_default (originals_in m.sets.items s) found.0 0 x found.1 ∙ found.2)

  -- its local number there
  pub local_here : (s x r local : ℕ) (m : RankMesh)
      → r < d.owners.ranks → r ≡ owner_of d.owners s x → m ≡ get_or d.ranks.items r m
      → local < length (originals_in m.sets.items s) → slice_index (originals_in m.sets.items s) local ≡ x
      → IsLocal (originals_of d.ranks.items (owner_of d.owners s x) s) x local
  local_here s x r local m here er em ll e =
      let sets : m.sets.items ≡ sets_of d.ranks.items r = sets_here r m here em in
      subst (λ (n : ℕ). IsLocal (originals_of d.ranks.items n s) x local) er
      (subst (λ (z : List LocalSet). IsLocal (originals_in z s) x local) sets (ll, e))

  -- a place of its own is one that the rank executes
  pub place_here : OwnedComeFirst → (site x r local : ℕ) (m : RankMesh)
      → (site_at b site).set < set_count b.mesh → r < d.owners.ranks → r ≡ owner_of d.owners (site_at b site).set x
      → m ≡ get_or d.ranks.items r m
      → local < length (originals_in m.sets.items (site_at b site).set)
      → slice_index (originals_in m.sets.items (site_at b site).set) local ≡ x
      → local < places_of d.ranks.items (site_at b site) r
  place_here first site x r local m ls here er em ll e =
      let s : ℕ = (site_at b site).set in
      let sets : m.sets.items ≡ sets_of d.ranks.items r = sets_here r m here em in
      let owned : owns d.owners s (slice_index (originals_in m.sets.items s) local) r ≡ true =
      ap (λ (y : ℕ). owns d.owners s y r) e ∙ owner_owns d.owners s x r er in
      let own : local < own_in m.sets.items s = (first b.mesh d.owners on.numbers r m (rank_mesh r m here em) s local ls ll).1 owned in
      owned_executed (scatters (site_at b site).args) local (own_in (sets_of d.ranks.items r) s) (executed_in (sets_of d.ranks.items r) s)
      (subst (λ (z : List LocalSet). local < own_in z s) sets own) (own_within (sets_of d.ranks.items r) s)

  -- the plan of a loop that runs has colours for each rank
  pub site_planned : (site : ℕ) → IsFreeRun b site → IsSitePlan b d.ranks.items p.block site (site_plan p site)
  site_planned site runs = on.planned.loops site runs.0 runs.1

  -- and for the block of each place
  pub has_block : (site r place block : ℕ) (plan : SitePlan) (c : Colours) → IsFreeRun b site → r < d.owners.ranks
      → site_plan_of plan ≡ site_plan p site → place < places_of d.ranks.items (site_at b site) r → block * p.block ≤ place
      → block < length (slice_index_or plan.colours.items r c).blocks.items
  has_block site r place block plan c runs here e within from =
      let separate = (site_planned site runs).colours r c (rank_here r here) in
      let inside : block * p.block < places_of d.ranks.items (site_at b site) r = omega (arith, within, from) in
      subst (λ (z : SitePlanValue). block < length (slice_index_or z.colours r c).blocks.items) (sym e)
      ((separate.blocks_count block).1 inside)

  -- the colour that is read is the block's
  pub colour_here : (site s x r local colour : ℕ) (plan : SitePlan)
      → r ≡ owner_of d.owners s x
      → site_plan_of plan ≡ site_plan p site
      → IsLocal (originals_of d.ranks.items (owner_of d.owners s x) s) x local
      → colour ≡ slice_index (slice_index_or (map (λ (c : Colours). c.blocks.items) plan.colours.items) r []) (local / p.block)
      → IsBlockColour d.owners d.ranks.items p site s x colour
  colour_here site s x r local colour plan er e at is = (
    local,
    at,
    is ∙ ap (λ (z : SitePlanValue). slice_index (slice_index_or (map (λ (c : Colours). c.blocks.items) z.colours) r []) (local / p.block)) e
        ∙ ap (λ (n : ℕ). block_colour_in p site n (local / p.block)) er,
  )
