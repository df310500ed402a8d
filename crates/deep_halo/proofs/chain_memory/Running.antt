-- An element's run at its places.
use Rattle.std.proofs.Common.{◌≡◌, ◌<◌, ◌≤◌, ◌*◌, ℕ, ℤ, Bool, true, false, List, take, length, get_or, replicate, Option, sym, ap, subst, ◌∙◌, arith, get_or-take, sum_by}
use Rattle.std.proofs.lemmas.List.{get_or-replicate}
use Rattle.std.proofs.lemmas.List.FromFn.{length-map-range_with_len}
use Rattle.std.proofs.lemmas.Option.{same_Some}
use Rattle.kernel_model.specs.declared.types.faults.KernelFault.{KernelFault}
use Rattle.kernel_model.specs.declared.types.kernels.RKernel.{RKernel}
use Rattle.kernel_model.specs.Resolved.{IsResolved}
use Rattle.kernel_model.specs.Meaning.{Target}
use Rattle.mesh_decl.specs.declared.owners.Owners.{Owners}
use Rattle.mesh_decl.specs.Mesh.{IsInRange, set_size}
use Rattle.mesh_decl.specs.Owners.{AreOwners}
use Rattle.kernel_model.specs.declared.types.views.frame.Place.{Place}
use Rattle.kernel_model.specs.Framed.{PlacesIn}
use Rattle.schedule_model.specs.Cells.{Store}
use Rattle.rank_state.specs.declared.spans.Span.{Span}
use Rattle.rank_state.specs.Core.{fault_of}
use Rattle.rank_state.specs.Frames.{pane_after, closed}
use Rattle.kernel_runs.specs.Here.{IsHere, core_on_gathered}
use Rattle.kernel_runs.specs.Saving.{place_cells}
use Rattle.bound_program.specs.Values.{BoundValue, no_site}
use Rattle.bound_program.specs.Fits.{Fits, constant_cells, site_at}
use Rattle.run_model.specs.Windows.{windows}
use Rattle.run_model.specs.Kernels.{constant_in, constants, constant_values, element_run}
use Rattle.run_model.specs.Laws.{WindowsAreReached}
use Rattle.deep_halo.specs.Placed.{arg_places, place_spans, HoldsWindows, EndsPlaced, RunsPlaced, PlacedElementsRun}
use Rattle.deep_halo.specs.Places.{stands_at, all_cells, AtRank}
use Rattle.deep_halo.specs.Sound.{IsLoop}
use Rattle.deep_halo.specs.declared.chain_memory.loops.Loop.{Loop}
use Rattle.deep_halo.proofs.chain_memory.Kernels.{IsThere, kernel_there}
use Rattle.deep_halo.proofs.chain_memory.Standing.{are_placed, few_cells}

-- all arguments are marked
pub all_marked : (n a : ℕ) → n ≤ 16 → a < n → get_or (take n (replicate 16 true)) a false ≡ true
all_marked n a le lt = get_or-take n (replicate 16 true) a false lt ∙ get_or-replicate 16 a true false (omega arith)

module _ (b : BoundValue) (o : Owners) (at : Option ℕ) (l : Loop) (e : ℕ) where
  -- the element's run at its places is that on a store
  pub runs_placed : (law : PlacedElementsRun) (reach : WindowsAreReached) → Fits b → AreOwners b.mesh o → IsInRange b.mesh → AtRank o.ranks at → IsLoop b l → e < set_size b.mesh l.set
      → (consts : List ℤ) (marks : List Bool) → ((a : ℕ) → a < length l.args.now → get_or marks a false ≡ true)
      → RunsPlaced b (site_at b l.site) e l.code.now.kernel.now consts (stands_at b o at) (all_cells b o.ranks) marks
  runs_placed law reach fits owners ranges here is le consts marks marked =
      law b (site_at b l.site) e l.code.now.kernel.now consts (stands_at b o at) (all_cells b o.ranks) marks is.kernel
      (are_placed b o at owners ranges here (site_at b l.site) e (fits.sites l.site no_site is.there) (subst (λ s. e < set_size b.mesh s) is.set le) (reach b (site_at b l.site) e))
      (λ a lt. marked a (subst (λ xs. a < length xs) (sym is.args) lt))

  -- they fit
  pub places_fit : (consts : List ℤ) (marks : List Bool)
      → RunsPlaced b (site_at b l.site) e l.code.now.kernel.now consts (stands_at b o at) (all_cells b o.ranks) marks → IsLoop b l
      → PlacesIn (all_cells b o.ranks) (arg_places b l.args.now e (stands_at b o at))
  places_fit consts marks runs is = subst (λ xs. PlacesIn (all_cells b o.ranks) (arg_places b xs e (stands_at b o at))) (sym is.args) runs.fits

  -- they have few cells
  pub places_few : Fits b → IsLoop b l → place_cells (arg_places b l.args.now e (stands_at b o at)) ≤ 1024
  places_few fits is =
      let s = fits.sites l.site no_site is.there in
      let few : place_cells (arg_places b (site_at b l.site).args e (stands_at b o at)) ≤ length (site_at b l.site).args * 64 =
      few_cells b o at (site_at b l.site).set e (site_at b l.site).args (site_at b l.site).args s.args in
      let here : place_cells (arg_places b (site_at b l.site).args e (stands_at b o at)) ≤ 1024 = omega (arith, few, s.few) in
      subst (λ xs. place_cells (arg_places b xs e (stands_at b o at)) ≤ 1024) (sym is.args) here

-- there are few
pub few_arguments : (b : BoundValue) (l : Loop) → Fits b → IsLoop b l → length l.args.now ≤ 16
few_arguments b l fits is = subst (λ xs. length xs ≤ 16) (sym is.args) (fits.sites l.site no_site is.there).few

-- the kernel takes these arguments, and its constants are there
module _ (b : BoundValue) (l : Loop) (fits : Fits b) (is : IsLoop b l) where
  kernel_is : IsThere b.kernels (site_at b l.site).kernel (length (site_at b l.site).args)
  kernel_is = kernel_there b.kernels (site_at b l.site).kernel (length (site_at b l.site).args) (fits.sites l.site no_site is.there).kernel

  same : kernel_is.kernel ≡ l.code.now.kernel.now
  same = same_Some kernel_is.kernel l.code.now.kernel.now (sym kernel_is.found ∙ is.kernel)

  pub takes : length l.args.now ≡ l.code.now.kernel.now.params
  takes = ap length is.args ∙ sym (ap (λ (k : RKernel). k.params) (sym same) ∙ kernel_is.params)

  pub resolved : IsResolved (length (constants b)) l.code.now.kernel.now
  resolved =
      let n = (site_at b l.site).kernel in
      let k = kernel_is.kernel in
      let count : length (constants b) ≡ sum_by constant_cells b.vars = length-map-range_with_len (constant_in b.vars 0) 0 (sum_by constant_cells b.vars) in
      subst (λ m. IsResolved m l.code.now.kernel.now) (sym count)
      (subst (λ (f : RKernel). IsResolved (sum_by constant_cells b.vars) f) (kernel_is.read k ∙ same) (fits.kernels n k kernel_is.below).resolved)

-- what a run in place gives, as it is told
pub ends_placed : (b : BoundValue) (o : Owners) (at : Option ℕ) (l : Loop) (e : ℕ) (consts : List ℤ) (marks : List Bool) (places : List Place) (old new : List ℤ) (fault : Option KernelFault)
    → IsLoop b l
    → RunsPlaced b (site_at b l.site) e l.code.now.kernel.now consts (stands_at b o at) (all_cells b o.ranks) marks
    → length old ≡ all_cells b o.ranks
    → places ≡ arg_places b l.args.now e (stands_at b o at)
    → ((spans : List Span) (ts : List Target) → IsHere l.code.now.kernel.now consts (length old) places marks spans ts
    → fault ≡ fault_of (core_on_gathered l.code.now.kernel.now consts old spans ts))
    → ((spans : List Span) (ts : List Target) → IsHere l.code.now.kernel.now consts (length old) places marks spans ts
    → (item : ℕ) → new ≡ closed spans (pane_after item (core_on_gathered l.code.now.kernel.now consts old spans ts)) old)
    → (s : Store) → HoldsWindows b l.args.now e (stands_at b o at) old s → consts ≡ constant_values b s
    → EndsPlaced b l.args.now e (stands_at b o at) old new s fault (element_run b (site_at b l.site) e s)
ends_placed b o at l e consts marks places old new fault is runs count put told kept s holds values =
    let site = site_at b l.site in
    let place = stands_at b o at in
    let here : IsHere l.code.now.kernel.now consts (length old) places marks (place_spans b site.args e place) (windows b site.args e) =
    subst (λ n. IsHere l.code.now.kernel.now consts n places marks (place_spans b site.args e place) (windows b site.args e)) (sym count)
    (subst (λ ps. IsHere l.code.now.kernel.now consts (all_cells b o.ranks) ps marks (place_spans b site.args e place) (windows b site.args e))
    (ap (λ xs. arg_places b xs e place) (sym is.args) ∙ sym put) runs.here) in
    subst (λ xs. EndsPlaced b xs e place old new s fault (element_run b site e s)) (sym is.args)
    (runs.ends old new s fault 0 count (subst (λ xs. HoldsWindows b xs e place old s) is.args holds) values
    (told (place_spans b site.args e place) (windows b site.args e) here)
    (kept (place_spans b site.args e place) (windows b site.args e) here 0))
