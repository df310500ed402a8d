-- What the steps of a schedule say of items, ranks and places.
use Rattle.std.proofs.Common.{◌≡◌, ◌<◌, ◌≤◌, ◌+◌, ℕ, zero, suc, List, [], ◌∷◌, map, length, get_or, ap, subst, arith}
use Rattle.std.specs.Prelude.{nat_lt}
use Rattle.std.proofs.lemmas.Bool.{and_parts, ltb-true, cond_both}
use Rattle.mesh_decl.specs.declared.owners.Owners.{Owners}
use Rattle.mesh_decl.specs.declared.owners.Perms.{Perms}
use Rattle.local_mesh.specs.declared.types.LocalSet.{LocalSet}
use Rattle.local_mesh.specs.declared.types.RankMesh.{RankMesh}
use Rattle.local_mesh.specs.LocalMesh.{AreClosed, executed_in}
use Rattle.local_mesh.specs.Numbers.{RankMeshesAreClosed, own_in}
use Rattle.local_mesh.specs.Lists.{sets_of, originals_of}
use Rattle.schedule_steps.specs.declared.step.Step.TheVariants.{Begin}
use Rattle.schedule_steps.specs.Steps.{IsStep, Passes}
use Rattle.schedule_model.specs.Program.{Free, is_loop}
use Rattle.bound_program.specs.Values.{BoundValue, SiteValue, no_site}
use Rattle.bound_program.specs.Classes.{scatters}
use Rattle.bound_program.specs.Fits.{SiteFits}
use Rattle.run_model.specs.Programs.{item_at, kind_of, loop_of}
use Rattle.run_model.specs.Laws.{LoopsAreThere, site_of}
use Rattle.loop_plan.specs.Values.{PlanValue, places_in}
use Rattle.loop_plan.specs.Places.{places_of}
use Rattle.loop_plan.specs.StepOutline.{loop_at}
use Rattle.bound_plan.specs.Laws.{Planned}
use Rattle.rank_layout.specs.StepLaws.{IsBegin, IsMessage, StepsStand, places}
use Rattle.rank_layout.proofs.ItemLoops.{free_kind, loop_is, loop_runs}
use Rattle.rank_layout.proofs.RankMeshes.{rank_there, closed_at}

-- a rank executes what it owns
own_few : (sets : List LocalSet) (s : ℕ) → own_in sets s ≤ executed_in sets s
unfolding own_in executed_in
own_few sets s = few sets s
  where
    few : (xs : List LocalSet) (i : ℕ) → get_or (map (λ (l : LocalSet). l.own) xs) i 0 ≤ get_or (map (λ (l : LocalSet). l.own + l.exec) xs) i 0
    few [] i = omega arith
    few (x ∷ xs) zero = omega arith
    few (x ∷ xs) (suc i) = few xs i

places_few : (meshes : List RankMesh) (site : SiteValue) (r : ℕ) → places_of meshes site r ≤ executed_in (sets_of meshes r) site.set
places_few meshes site r = cond_both (scatters site.args) (executed_in (sets_of meshes r) site.set) (own_in (sets_of meshes r) site.set)
    (λ n. n ≤ executed_in (sets_of meshes r) site.set) (λ s. omega arith) (λ s. own_few (sets_of meshes r) site.set)

module _ (there : LoopsAreThere) (closed : RankMeshesAreClosed)
    (b : BoundValue) (o : Owners) (n : Perms) (meshes : List RankMesh) (p : PlanValue) (pl : Planned b o n meshes p) where
  module _ (k r x : ℕ) (step : IsStep (places b o meshes p) (Begin k r x)) where
    free : kind_of (item_at b k) ≡ Free
    free = free_kind (kind_of (item_at b k)) step.1

    loop : loop_of (item_at b k) < length b.sites
    loop = there b k pl.fits (ap is_loop free)

    fit : SiteFits b (site_of b k)
    fit = pl.fits.sites (loop_of (item_at b k)) no_site loop

    place : x < places_in p (loop_of (item_at b k)) r
    place =
        subst (λ s. x < places_in p s r) (loop_is b k free)
        (ltb-true x (places_in p (loop_at b meshes p k) r) (and_parts (nat_lt x (places_in p (loop_at b meshes p k) r)) _ step.3).0)

    executed : x < executed_in (sets_of meshes r) (site_of b k).set
    executed =
        let few = places_few meshes (site_of b k) r in
        let are : places_in p (loop_of (item_at b k)) r ≡ places_of meshes (site_of b k) r
        = (pl.proper.loops (loop_of (item_at b k)) loop (loop_runs b k free)).places r (rank_there b o n meshes p pl r step.2) in
        omega (arith, few, are, place)

    begin : IsBegin b o meshes p k r x
    begin =
        let shut : AreClosed b.mesh (sets_of meshes r) = closed_at b o n meshes p pl r step.2 closed in
        let few = shut.executed (site_of b k).set fit.set in
        let held : x < length (originals_of meshes r (site_of b k).set) = omega (arith, few, executed) in
        record {
          item = step.0;
          free = free;
          loop = loop;
          set = fit.set;
          rank = step.2;
          here = rank_there b o n meshes p pl r step.2;
          sets = omega (arith, shut.count, fit.set);
          place = place;
          executed = executed;
          held = held;
          element = shut.within (site_of b k).set x fit.set held;
        }

  message : (k s r : ℕ) → Passes (places b o meshes p) k s r → IsMessage b o meshes p k s r
  message k s r step = record {
    item = step.0;
    free = free_kind (kind_of (item_at b k)) step.1;
    from = step.2;
    to = step.3;
    sent = step.4;
  }

pub steps_stand : LoopsAreThere → RankMeshesAreClosed → StepsStand
steps_stand there closed b o n meshes p pl = record {
  begins = begin there closed b o n meshes p pl;
  sends = message there closed b o n meshes p pl;
  receives = λ k r s. message there closed b o n meshes p pl k s r;
}
