-- Whether a program has a plan on its ranks is one, and so is what is read of it, where its blocks and colours come from one place.
use Rattle.std.proofs.Common.{◌≡◌, ℕ, inl, inr, List, map, refl, sym, ap, ap₂, ◌∙◌, arith}
use Rattle.kernel_model.specs.declared.types.kernels.RKernel.{RKernel}
use Rattle.local_mesh.specs.declared.types.RankMesh.{RankMesh}
use Rattle.local_mesh.specs.Values.{rank_mesh_value}
use Rattle.bound_program.specs.Values.{BoundValue}
use Rattle.loop_plan.specs.Values.{PlanValue}
use Rattle.loop_plan.specs.Needs.{item_at}
use Rattle.loop_plan.specs.Proper.{Proper, HasLeastColours}
use Rattle.loop_plan.specs.StepCounts.{program_steps}
use Rattle.loop_plan.specs.StepOutline.{step_outline}
use Rattle.loop_plan.specs.OnePlan.{AreAlike, LeastColoursAreOne, StepCountsAreOne}
use Rattle.plan_cert.specs.Certified.{Certified, IsRefused}
use Rattle.plan_cert.specs.Laws.{RefusalsAreOne, NoneIsRefused, PlansAreAlike, NoKernelIsRead}
use Rattle.bound_plan.specs.OneRun.{with_kernels}
use Rattle.command_words.specs.Refusal.{Refusal, BadPlan, BeyondLimit, Steps}
use Rattle.answers.specs.Judgements.{Colouring, Least, Told, IsPlanned, IsUnplanned}

-- ---- plans know nothing of kernels

module _ (b : BoundValue) (ks : List RKernel) (meshes : List RankMesh) where
  pub same_steps : program_steps (with_kernels b ks) meshes ≡ program_steps b meshes
  unfolding item_at
  same_steps = refl

  pub same_outline : (p : PlanValue) → step_outline b meshes p ≡ step_outline (with_kernels b ks) meshes p
  unfolding item_at
  same_outline p = refl

  pub is_proper : (p : PlanValue) → Proper (with_kernels b ks) meshes p → Proper b meshes p
  unfolding item_at
  is_proper p h = record {
    ranks = h.ranks;
    block = h.block;
    steps = h.steps;
    items = h.items;
    exchanges = record { history = h.exchanges.history; in_order = h.exchanges.in_order };
    pairs = h.pairs;
    sites = h.sites;
    loops = λ s l r. let k = h.loops s l r in record { places_count = k.places_count; places = k.places; colours_count = k.colours_count; colours = k.colours };
  }

  pub has_least : (p : PlanValue) → HasLeastColours (with_kernels b ks) meshes p → HasLeastColours b meshes p
  has_least p h = h

-- ---- one place that blocks and colours come from

-- what is said of plans
pub record PlanLaws : Type 0 where
  pub least_are_one : LeastColoursAreOne
  pub one_step_count : StepCountsAreOne
  pub refusals_are_one : RefusalsAreOne
  pub none_is_refused : NoneIsRefused
  pub told_are_alike : PlansAreAlike
  pub no_kernel_is_read : NoKernelIsRead

module _ (laws : PlanLaws) (b : BoundValue) (ks : List RKernel) (meshes others : List RankMesh) (same : map rank_mesh_value meshes ≡ map rank_mesh_value others) where
  abbrev c : BoundValue
  c = with_kernels b ks

  steps_same : program_steps b meshes ≡ program_steps c others
  steps_same = laws.one_step_count b meshes others same ∙ sym (same_steps b ks others)

  certified : (bytes : List ℕ) (q : PlanValue) → Certified c others bytes q → Certified b others bytes q
  certified bytes q h = laws.no_kernel_is_read.certified c b others bytes q refl refl refl h

  refused_so : (bytes : List ℕ) (number line : ℕ) → IsRefused c others bytes number line → IsRefused b others bytes number line
  refused_so bytes number line h = laws.no_kernel_is_read.refused c b others bytes number line refl refl refl h

  -- ---- two plans

  pub alike : (x : Colouring) (p q : PlanValue) → IsPlanned x b meshes p → IsPlanned x c others q → AreAlike b meshes others p q
  alike (Told bytes) p q h k = laws.told_are_alike b meshes others bytes p q same h.coloured (certified bytes q k.coloured)
  alike (Least places) p q h k =
      let size = h.coloured.1 ∙ sym k.coloured.1 in
      record {
        alike = same;
        block = size;
        proper = h.proper;
        other_proper = is_proper b ks others q k.proper;
        colours = laws.least_are_one b meshes others p q (record {
          alike = same;
          block = size;
          colours = h.coloured.0;
          other_colours = has_least b ks others q k.coloured.0;
        });
      }

  -- ---- two refusals

  pub refusals : (x : Colouring) (r s : Refusal) → IsUnplanned x b meshes r → IsUnplanned x c others s → r ≡ s
  refusals (Least places) r s (inl h) k = absurd h
  refusals (Least places) r s (inr h) (inl k) = absurd k
  refusals (Least places) r s (inr h) (inr k) = h.says ∙ ap (BeyondLimit Steps) steps_same ∙ sym k.says
  refusals (Told bytes) r s (inl h) (inl k) =
      let one = laws.refusals_are_one b meshes others bytes h.0 k.0 h.1 k.1 same h.2 (refused_so bytes k.0 k.1 k.2) in
      h.3 ∙ ap₂ BadPlan one.0 one.1 ∙ sym k.3
  refusals (Told bytes) r s (inl h) (inr k) =
      absurd (laws.none_is_refused b others meshes bytes k.coloured.0 h.0 h.1 (sym same) (certified bytes k.coloured.0 k.coloured.1) h.2)
  refusals (Told bytes) r s (inr h) (inl k) =
      absurd (laws.none_is_refused b meshes others bytes h.coloured.0 k.0 k.1 same h.coloured.1 (refused_so bytes k.0 k.1 k.2))
  refusals (Told bytes) r s (inr h) (inr k) = h.says ∙ ap (BeyondLimit Steps) steps_same ∙ sym k.says

  -- ---- a refusal and a plan

  pub refused_planned : (x : Colouring) (r : Refusal) (q : PlanValue) → IsUnplanned x b meshes r → IsPlanned x c others q → ⊥
  refused_planned (Least places) r q (inl h) k = h
  refused_planned (Told bytes) r q (inl h) k = laws.none_is_refused b others meshes bytes q h.0 h.1 (sym same) (certified bytes q k.coloured) h.2
  refused_planned x r q (inr h) k = let e = steps_same in let m = h.many in let f = k.few in omega (arith, e, m, f)

  pub planned_refused : (x : Colouring) (p : PlanValue) (s : Refusal) → IsPlanned x b meshes p → IsUnplanned x c others s → ⊥
  planned_refused (Least places) p s h (inl k) = k
  planned_refused (Told bytes) p s h (inl k) = laws.none_is_refused b meshes others bytes p k.0 k.1 same h.coloured (refused_so bytes k.0 k.1 k.2)
  planned_refused x p s h (inr k) = let e = steps_same in let f = h.few in let m = k.many in omega (arith, e, f, m)
