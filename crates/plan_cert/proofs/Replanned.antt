-- A plan with other colours in place of its own, which keep conflicts apart as well.
use Rattle.std.proofs.Common.{◌≡◌, ℕ, ◌<◌, true, sym, ◌∙◌, List, length}
use Rattle.local_mesh.specs.declared.types.RankMesh.{RankMesh}
use Rattle.bound_program.specs.Values.{BoundValue}
use Rattle.loop_plan.specs.Values.{SitePlanValue, PlanValue, site_plan, item_plan}
use Rattle.loop_plan.specs.Needs.{IsInRange, AreExchanges}
use Rattle.loop_plan.specs.Pairs.{passes, pairs_below}
use Rattle.loop_plan.specs.Places.{runs_free}
use Rattle.loop_plan.specs.Proper.{IsSitePlan, Proper}
use Rattle.loop_plan.specs.SitePlans.{AreSitePlans}
use Rattle.plan_cert.proofs.ProgramSteps.{outline_steps, proper_steps}

module _
    (b : BoundValue) (meshes : List RankMesh) (range : IsInRange b) (l : PlanValue) (h : Proper b meshes l)
    (entries : List (ℕ × SitePlanValue)) (a : AreSitePlans b meshes l.block (length b.sites) entries)
  where
    abbrev pub replanned : PlanValue
    replanned = record { ranks = l.ranks; block = l.block; sites = entries; items = l.items; steps = l.steps }

    loops : (s : ℕ) → s < length b.sites → runs_free b s ≡ true → IsSitePlan b meshes l.block s (site_plan replanned s)
    unfolding site_plan
    loops s ls run = a.plans s ls run

    pairs : (k : ℕ) → k < length b.trace → (item_plan replanned k).pairs ≡ pairs_below (passes b.mesh meshes (item_plan replanned k).exchange) l.ranks l.ranks
    unfolding item_plan
    pairs k lk = h.pairs k lk

    are_exchanges : AreExchanges b replanned
    unfolding item_plan
    are_exchanges = record { history = h.exchanges.history; in_order = h.exchanges.in_order }

    pub is_proper : Proper b meshes replanned
    is_proper = record {
      ranks = h.ranks;
      block = h.block;
      steps = proper_steps b meshes l range h ∙ sym (outline_steps b meshes range replanned h.ranks are_exchanges pairs loops);
      items = h.items;
      exchanges = are_exchanges;
      pairs = pairs;
      sites = a.keys;
      loops = loops;
    }
