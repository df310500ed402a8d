-- The places that a rank executes of an item's loop.
use Rattle.std.proofs.Common.{◌≡◌, ℕ, ◌<◌, ◌≤◌, Bool, true, false, List, length, refl, sym, ap, subst, ◌∙◌, arith, ⊎_elim}
use Rattle.std.specs.Prelude.{◌&&◌, ◌||◌, ◌==◌, ◌↔◌}
use Rattle.std.proofs.lemmas.Bool.{cases_Bool, cond-true, cond-false}
use Rattle.mesh_decl.specs.declared.owners.Owners.{Owners}
use Rattle.mesh_decl.specs.declared.owners.Perms.{Perms}
use Rattle.mesh_decl.specs.Owners.{owner_of}
use Rattle.local_mesh.specs.Halo.{owns, imports_execute, executes}
use Rattle.local_mesh.specs.declared.types.RankMesh.{RankMesh}
use Rattle.local_mesh.specs.LocalMesh.{executed_in}
use Rattle.schedule_model.specs.Program.{Free, is_loop}
use Rattle.schedule_model.specs.Setup as setup
use Rattle.bound_program.specs.Values.{BoundValue, no_site}
use Rattle.bound_program.specs.Classes.{scatters}
use Rattle.bound_program.specs.Fits.{SiteFits}
use Rattle.run_model.specs.Programs.{kind_of, loop_of, item_at}
use Rattle.run_model.specs.Laws.{site_of}
use Rattle.loop_plan.specs.Values.{PlanValue, places_in}
use Rattle.loop_plan.specs.Needs.{item_scatters}
use Rattle.loop_plan.specs.Pairs.{sets_of, own_in}
use Rattle.loop_plan.specs.Places.{places_of}
use Rattle.loop_plan.specs.StepOutline.{loop_at}
use Rattle.bound_plan.specs.Places.{originals, original_at}
use Rattle.bound_plan.specs.Setups.{setup_of}
use Rattle.bound_plan.specs.Laws.{Planned}
use Rattle.bound_plan.specs.Given.{NumberLaws, ItemLaws}
use Rattle.bound_plan.proofs.Loops.{loop_is, runs, free_args_are}
use Rattle.bound_plan.proofs.Locals.{owned, executed, few, own_few}

module _ (laws : NumberLaws) (items : ItemLaws) (b : BoundValue) (o : Owners) (n : Perms) (meshes : List RankMesh) (p : PlanValue)
    (pl : Planned b o n meshes p) (k : ℕ) (free : kind_of (item_at b k) ≡ Free) where
  pub site_there : loop_of (item_at b k) < length b.sites
  site_there = items.loops b k pl.fits (ap is_loop free)

  pub site_fits : SiteFits b (site_of b k)
  site_fits = pl.fits.sites (loop_of (item_at b k)) no_site site_there

  pub scatters_is : item_scatters b k ≡ scatters (site_of b k).args
  scatters_is = ap scatters (free_args_are b k free)

  module _ (r : ℕ) (lr : r < o.ranks) where
    -- how many places the rank executes
    pub count_is : places_in p (loop_at b meshes p k) r ≡ places_of meshes (site_of b k) r
    count_is =
        ap (λ s. places_in p s r) (loop_is b k)
        ∙ (pl.proper.loops (loop_of (item_at b k)) site_there (runs b k free)).places r (subst (λ z. r < z) (sym pl.distributed.are_meshes.count) lr)

    pub count_few : places_in p (loop_at b meshes p k) r ≤ executed_in (sets_of meshes r) (site_of b k).set
    count_few = ⊎_elim
        (λ (h : scatters (site_of b k).args ≡ true). omega (
          arith,
          count_is,
          cond-true (scatters (site_of b k).args) (executed_in (sets_of meshes r) (site_of b k).set)
              (own_in (sets_of meshes r) (site_of b k).set) h,
        ))
        (λ (h : scatters (site_of b k).args ≡ false).
        omega (
          arith,
          count_is,
          cond-false (scatters (site_of b k).args) (executed_in (sets_of meshes r) (site_of b k).set) (own_in (sets_of meshes r) (site_of b k).set) h,
          own_few laws b.mesh o n meshes pl.distributed r lr (site_of b k).set site_fits.set,
        ))
        (cases_Bool (scatters (site_of b k).args))

    pub place_there : (x : ℕ) → x < places_in p (loop_at b meshes p k) r → x < length (originals meshes r (site_of b k).set)
    place_there x l = omega (arith, count_few, few laws b.mesh o n meshes pl.distributed r lr (site_of b k).set site_fits.set)

    or_false : (z : Bool) → (z || false) ≡ z
    or_false true = refl
    or_false false = refl

    all_executed : (x : ℕ) → item_scatters b k ≡ true
        → setup.executes (setup_of b o meshes p) k r (original_at meshes r (site_of b k).set x) ≡ executes b.mesh o (site_of b k).set (original_at meshes r (site_of b k).set x) r
    unfolding owns executes
    all_executed x h = ap (λ z. (owner_of o (site_of b k).set (original_at meshes r (site_of b k).set x) == r) ||
        (z && imports_execute b.mesh o (site_of b k).set (original_at meshes r (site_of b k).set x) r)) h

    own_executed : (x : ℕ) → item_scatters b k ≡ false
        → setup.executes (setup_of b o meshes p) k r (original_at meshes r (site_of b k).set x) ≡ owns o (site_of b k).set (original_at meshes r (site_of b k).set x) r
    unfolding owns
    own_executed x h =
        ap (λ z. (owner_of o (site_of b k).set (original_at meshes r (site_of b k).set x) == r) || (z && imports_execute b.mesh o (site_of b k).set (original_at meshes r (site_of b k).set x) r)) h
        ∙ or_false (owner_of o (site_of b k).set (original_at meshes r (site_of b k).set x) == r)

    -- an element is at one of them exactly where the rank executes it
    pub count_executes : (x : ℕ) → x < length (originals meshes r (site_of b k).set)
        → (x < places_in p (loop_at b meshes p k) r) ↔ (setup.executes (setup_of b o meshes p) k r (original_at meshes r (site_of b k).set x) ≡ true)
    count_executes x l = ⊎_elim
        (λ (h : scatters (site_of b k).args ≡ true).
        let c : places_in p (loop_at b meshes p k) r ≡ executed_in (sets_of meshes r) (site_of b k).set = count_is
        ∙ cond-true (scatters (site_of b k).args) (executed_in (sets_of meshes r) (site_of b k).set)
        (own_in (sets_of meshes r) (site_of b k).set) h in
        let w = executed laws b.mesh o n meshes pl.distributed r lr (site_of b k).set site_fits.set x l in
        let e = all_executed x (scatters_is ∙ h) in
        ((λ m. e ∙ w.0 (omega arith)), (λ m. let z : x < executed_in (sets_of meshes r) (site_of b k).set = w.1 (sym e ∙ m) in omega arith)))
        (λ (h : scatters (site_of b k).args ≡ false).
        let c : places_in p (loop_at b meshes p k) r ≡ own_in (sets_of meshes r) (site_of b k).set = count_is
        ∙ cond-false (scatters (site_of b k).args) (executed_in (sets_of meshes r) (site_of b k).set)
        (own_in (sets_of meshes r) (site_of b k).set) h in
        let w = owned laws b.mesh o n meshes pl.distributed r lr (site_of b k).set site_fits.set x l in
        let e = own_executed x (scatters_is ∙ h) in
        ((λ m. e ∙ w.0 (omega arith)), (λ m. let z : x < own_in (sets_of meshes r) (site_of b k).set = w.1 (sym e ∙ m) in omega arith)))
        (cases_Bool (scatters (site_of b k).args))
