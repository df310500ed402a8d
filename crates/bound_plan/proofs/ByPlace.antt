-- The steps of a plan are those of the theorem, by places.
use Rattle.std.proofs.Common.{◌≡◌, ℕ, ◌<◌, ◌/◌, Bool, true, false, List, length, refl, sym, ap, subst, ◌∙◌}
use Rattle.std.specs.Prelude.{◌&&◌, ◌||◌, ◌==◌, nat_lt, slice_index_or}
use Rattle.std.proofs.lemmas.Bool.{and_parts, ltb-true}
use Rattle.mesh_decl.specs.declared.owners.Owners.{Owners}
use Rattle.mesh_decl.specs.declared.owners.Perms.{Perms}
use Rattle.local_mesh.specs.declared.types.RankMesh.{RankMesh}
use Rattle.schedule_model.specs.Program as program
use Rattle.schedule_model.specs.Tests.{free_kind}
use Rattle.schedule_steps.specs.Outline.{Outline, runs, by_colour}
use Rattle.schedule_model.specs.Layout.{by_place}
use Rattle.bound_program.specs.Values.{BoundValue}
use Rattle.bound_program.specs.Fits.{site_at}
use Rattle.run_model.specs.Programs.{kind_of, item_at}
use Rattle.run_model.specs.Laws.{site_of}
use Rattle.loop_plan.specs.Values.{PlanValue, places_in, block_colour_in, inner_colour_in}
use Rattle.loop_plan.specs.Needs as plan
use Rattle.loop_plan.specs.Pairs.{sets_of, core_in}
use Rattle.loop_plan.specs.StepOutline.{is_free, loop_at, step_outline}
use Rattle.bound_plan.specs.Places.{originals, original_at, local_at}
use Rattle.bound_plan.specs.Setups.{setup_of}
use Rattle.bound_plan.specs.Layouts.{layout_of}
use Rattle.bound_plan.specs.Laws.{Planned, PlansAreByPlace, PlansAcceptByPlace}
use Rattle.bound_plan.specs.Given.{NumberLaws, ItemLaws, AlikeAcceptAlike}
use Rattle.bound_plan.proofs.AlikeBack.{alike_back}
use Rattle.bound_plan.proofs.Loops.{item_is, loop_is, free_same}
use Rattle.bound_plan.proofs.Locals.{local_is, core_is}
use Rattle.bound_plan.proofs.Placed.{site_fits, place_there}

module _ (laws : NumberLaws) (items : ItemLaws) (b : BoundValue) (o : Owners) (n : Perms) (meshes : List RankMesh) (p : PlanValue) (pl : Planned b o n meshes p) where
  abbrev plan_steps : Outline
  plan_steps = step_outline b meshes p

  abbrev places : Outline
  places = by_place (setup_of b o meshes p) (layout_of b o meshes p)

  ranks : p.ranks ≡ o.ranks
  ranks = pl.proper.ranks ∙ pl.distributed.are_meshes.count

  free : (k : ℕ) → is_free (plan.item_at b k) ≡ program.is_free (kind_of (item_at b k))
  free k = ap is_free (item_is b k) ∙ free_same (item_at b k)

  is_free_kind : (k : ℕ) → is_free (plan.item_at b k) ≡ true → kind_of (item_at b k) ≡ program.Free
  is_free_kind k h = free_kind (kind_of (item_at b k)) (sym (free k) ∙ h)

  below : (k r e : ℕ) → runs plan_steps k r e ≡ true → e < places_in p (loop_at b meshes p k) r
  below k r e h = ltb-true e (places_in p (loop_at b meshes p k) r) (and_parts (nat_lt e (places_in p (loop_at b meshes p k) r)) true h).0

  module _ (k r e : ℕ) (h : is_free (plan.item_at b k) ≡ true) (lr : r < p.ranks) (run : runs plan_steps k r e ≡ true) where
    there : e < length (originals meshes r (site_of b k).set)
    there = place_there laws items b o n meshes p pl k (is_free_kind k h) r (subst (λ z. r < z) ranks lr) e (below k r e run)

    stays : local_at meshes r (site_of b k).set (original_at meshes r (site_of b k).set e) ≡ e
    stays = local_is laws b.mesh o n meshes pl.distributed r (subst (λ z. r < z) ranks lr) (site_of b k).set
        (site_fits laws items b o n meshes p pl k (is_free_kind k h)).set e there

    core : plan_steps.is_core k r e ≡ places.is_core k r e
    core =
        ap (λ s. slice_index_or (core_in (sets_of meshes r) (site_at b s).set) e false) (loop_is b k)
        ∙ core_is laws b.mesh o n meshes pl.distributed r (subst (λ z. r < z) ranks lr) (site_of b k).set
        (site_fits laws items b o n meshes p pl k (is_free_kind k h)).set e there

  -- by the colours of these places, the first goes before the second
  abbrev before : ℕ → ℕ → ℕ → ℕ → Bool
  before k r x y =
      nat_lt (block_colour_in p (loop_at b meshes p k) r (x / p.block)) (block_colour_in p (loop_at b meshes p k) r (y / p.block))
      || ((x / p.block == y / p.block) && nat_lt (inner_colour_in p (loop_at b meshes p k) r x) (inner_colour_in p (loop_at b meshes p k) r y))

  colours : (k r e f : ℕ) → is_free (plan.item_at b k) ≡ true → r < p.ranks → runs plan_steps k r e ≡ true → runs plan_steps k r f ≡ true
      → by_colour plan_steps k r e f ≡ by_colour places k r e f
  colours k r e f h lr re rf =
      sym (ap (λ x. before k r x (local_at meshes r (site_of b k).set (original_at meshes r (site_of b k).set f))) (stays k r e h lr re)
      ∙ ap (before k r e) (stays k r f h lr rf))

pub plans_are_by_place : NumberLaws → ItemLaws → PlansAreByPlace
plans_are_by_place laws items b o n meshes p pl = record {
  items = refl;
  ranks = ranks laws items b o n meshes p pl;
  is_free = λ k lk. free laws items b o n meshes p pl k;
  sends = λ k s r lk h ls lr. refl;
  executed = λ k r e lk h lr. refl;
  core = λ k r e lk h lr run. core laws items b o n meshes p pl k r e h lr run;
  colours = λ k r e f lk h lr re rf. colours laws items b o n meshes p pl k r e f h lr re rf;
}

pub plans_accept_by_place : AlikeAcceptAlike → PlansAreByPlace → PlansAcceptByPlace
plans_accept_by_place accept alike b o n meshes p pl l = (
  accept (step_outline b meshes p) (by_place (setup_of b o meshes p) (layout_of b o meshes p)) (alike b o n meshes p pl) l,
  accept (by_place (setup_of b o meshes p) (layout_of b o meshes p)) (step_outline b meshes p)
      (alike_back (step_outline b meshes p) (by_place (setup_of b o meshes p) (layout_of b o meshes p)) (alike b o n meshes p pl)) l,
)
