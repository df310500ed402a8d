-- Plans of the loops that run, by number.
use Rattle.std.proofs.Common.{◌≡◌, ◌+◌, ◌<◌, ◌≤◌, ◌^◌, ℕ, zero, suc, Bool, true, false, List, [], ◌∷◌, ◌++◌, length, refl, sym, subst, arith, ⊎_elim, cond}
use Rattle.std.proofs.lemmas.Bool.{cases_Bool}
use Rattle.mesh_decl.specs.declared.owners.Owners.{Owners}
use Rattle.mesh_decl.specs.declared.owners.Perms.{Perms}
use Rattle.mesh_decl.proofs.Public.{sizes_fit}
use Rattle.local_mesh.specs.declared.types.RankMesh.{RankMesh}
use Rattle.local_mesh.specs.LocalMesh.{executed_in}
use Rattle.colouring.specs.declared.types.Colours.{Colours}
use Rattle.colouring.specs.Colours.{AreColours}
use Rattle.bound_program.specs.Values.{BoundValue}
use Rattle.bound_program.specs.Fits.{site_at, Fits}
use Rattle.bound_program.specs.Classes.{scatters}
use Rattle.loop_plan.specs.Distributed.{IsDistributed}
use Rattle.loop_plan.specs.Values.{SitePlanValue}
use Rattle.loop_plan.specs.Pairs.{sets_of, own_in}
use Rattle.loop_plan.specs.Places.{reducing, places_of, maps_of, runs_free}
use Rattle.loop_plan.specs.SitePlans.{IsLeastPlan, ArePlans}
use Rattle.loop_plan.proofs.Exporting.{executed_few}
use Rattle.loop_plan.proofs.SetReads.{own_within}
use Rattle.loop_plan.proofs.SitePlanning.{set_fits, plans_kept, plans_added}
use Rattle.loop_plan.proofs.plan_exists.Built.{table, length_table, table_at}
use Rattle.loop_plan.proofs.plan_exists.Coloured.{colours_of, colours_are}

module _ (b : BoundValue) (meshes : List RankMesh) (size : ℕ) where
  -- the colours of a rank's places of a loop
  colours_at : ℕ → ℕ → Colours
  colours_at s r = colours_of b.mesh (maps_of meshes r) (reducing (site_at b s).args) (places_of meshes (site_at b s) r) size

  loop_plan : ℕ → SitePlanValue
  loop_plan s = record {
    places = table (length meshes) (places_of meshes (site_at b s));
    colours = table (length meshes) (colours_at s);
  }

  -- those of the loops below n that run as Free ones
  pub loop_plans : ℕ → List (ℕ × SitePlanValue)
  loop_plans zero = []
  loop_plans (suc n) = cond (runs_free b n) (loop_plans n ++ (n, loop_plan n) ∷ []) (loop_plans n)

  module _ (o : Owners) (p : Perms) (fits : Fits b) (d : IsDistributed b.mesh o p meshes) (some : 0 < size) where
    few_places : (s r : ℕ) → s < length b.sites → r < length meshes → places_of meshes (site_at b s) r < 2 ^ 32
    few_places s r l lr = by_class (scatters (site_at b s).args)
      where
        few : executed_in (sets_of meshes r) (site_at b s).set < 2 ^ 32
        few = executed_few b.mesh o p meshes d.are_perms d.are_meshes r (site_at b s).set (let e = d.are_meshes.count in omega arith)
            (set_fits b meshes fits s l) (sizes_fit b.mesh fits.mesh (site_at b s).set)

        by_class : (t : Bool) → cond t (executed_in (sets_of meshes r) (site_at b s).set) (own_in (sets_of meshes r) (site_at b s).set) < 2 ^ 32
        by_class true = few
        by_class false = let w = own_within (sets_of meshes r) (site_at b s).set in let f = few in omega arith

    is_least : (s : ℕ) → s < length b.sites → IsLeastPlan b meshes size s (loop_plan s)
    unfolding loop_plan colours_at
    is_least s l = record {
      places_count = length_table (length meshes) (places_of meshes (site_at b s));
      places = λ r lr. table_at (length meshes) (places_of meshes (site_at b s)) r 0 lr;
      colours_count = length_table (length meshes) (colours_at s);
      colours = λ r c lr. subst (AreColours b.mesh (maps_of meshes r) (reducing (site_at b s).args) (places_of meshes (site_at b s) r) size)
          (sym (table_at (length meshes) (colours_at s) r c lr))
          (colours_are b.mesh (maps_of meshes r) (reducing (site_at b s).args) (places_of meshes (site_at b s) r) size some (few_places s r l lr));
    }

    pub are_plans : (n : ℕ) → n ≤ length b.sites → ArePlans b meshes size n (loop_plans n)
    unfolding loop_plans
    are_plans zero l = record { keys = refl; plans = λ s m. absurd (omega arith) }
    are_plans (suc n) l = subst (λ z. ArePlans b meshes size z (loop_plans (suc n))) (omega arith) (⊎_elim
        (λ (h : runs_free b n ≡ true). subst (λ z. ArePlans b meshes size (n + 1) (cond z (loop_plans n ++ (n, loop_plan n) ∷ []) (loop_plans n))) (sym h)
        (plans_added b (IsLeastPlan b meshes size) n (loop_plans n) (loop_plans n ++ (n, loop_plan n) ∷ []) (loop_plan n) h (is_least n (omega arith)) refl (are_plans n (omega arith))))
        (λ (h : runs_free b n ≡ false). subst (λ z. ArePlans b meshes size (n + 1) (cond z (loop_plans n ++ (n, loop_plan n) ∷ []) (loop_plans n))) (sym h)
        (plans_kept b (IsLeastPlan b meshes size) n (loop_plans n) h (are_plans n (omega arith))))
        (cases_Bool (runs_free b n)))
