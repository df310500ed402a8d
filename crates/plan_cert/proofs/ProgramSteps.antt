-- A plan has as many steps as its program.
use Rattle.std.proofs.Common.{◌≡◌, ℕ, ◌+◌, ◌*◌, ◌<◌, Bool, true, false, cond, sum, refl, sym, ap, ◌∙◌, List, length, slice_index}
use Rattle.lemmas.proofs.Below.{listed_agree}
use Rattle.mesh_decl.specs.Mesh.{dat_count}
use Rattle.schedule_model.proofs.Public.{by_bit}
use Rattle.schedule_steps.specs.Peaks.{step_count}
use Rattle.local_mesh.specs.declared.types.RankMesh.{RankMesh}
use Rattle.bound_program.specs.Values.{BoundValue}
use Rattle.bound_program.specs.Fits.{Fits, site_at}
use Rattle.loop_plan.specs.Values.{PlanValue, site_plan, item_plan}
use Rattle.loop_plan.specs.Needs.{item_at, item_modifies, item_needs, exchanges, stale_before, exchanged_at, IsInRange, AreExchanges}
use Rattle.loop_plan.specs.Pairs.{passes, pairs_below}
use Rattle.loop_plan.specs.Places.{places_of, runs_free}
use Rattle.loop_plan.specs.Proper.{IsSitePlan, Proper}
use Rattle.loop_plan.specs.Counted.{sum_below}
use Rattle.loop_plan.specs.Counts.{Counts}
use Rattle.loop_plan.specs.StepCounts.{exchange_of, message_count, place_count, steps_at, program_steps}
use Rattle.loop_plan.specs.StepOutline.{is_free, loop_of, step_outline, item_step_count}
use Rattle.loop_plan.proofs.Public.{same_sum, sum_of_list, steps_counted, loop_below, loop_runs}
use Rattle.plan_cert.specs.Laws.{CertifiedHaveSteps}
use Rattle.std.proofs.Math.Bool.{and_comm}

-- exchanges by the history of dats are those by one bit a dat
pub exchange_is : (b : BoundValue) (meshes : List RankMesh) (p : PlanValue) → AreExchanges b p → (k : ℕ) → k < length b.trace → (item_plan p k).exchange ≡ exchange_of b meshes k
exchange_is b meshes p h k l =
    h.in_order k l
    ∙ listed_agree (dat_count b.mesh) (exchanges b p k) (exchanged_at b k) (λ d ld.
    by_bit (λ i. item_modifies b i d) (λ i. item_needs b i d) (λ i. exchanges b p i d) (h.history d) k
    ∙ and_comm (item_needs b k d) (stale_before b k d))

module _
    (b : BoundValue) (meshes : List RankMesh) (range : IsInRange b) (p : PlanValue)
    (ranks : p.ranks ≡ length meshes)
    (are_exchanges : AreExchanges b p)
    (pairs : (k : ℕ) → k < length b.trace → (item_plan p k).pairs ≡ pairs_below (passes b.mesh meshes (item_plan p k).exchange) p.ranks p.ranks)
    (loops : (s : ℕ) → s < length b.sites → runs_free b s ≡ true → IsSitePlan b meshes p.block s (site_plan p s))
  where
    -- the loop that an item runs
    loop : (k : ℕ) → k < length b.trace → is_free (item_at b k) ≡ true → IsSitePlan b meshes p.block (loop_of (item_at b k)) (site_plan p (loop_of (item_at b k)))
    loop k l f = loops (loop_of (item_at b k)) (loop_below b range k l f) (loop_runs b range k l f)

    counts : Counts b meshes p
    counts = record { pairs = λ k l f. pairs k l; places = λ k l f. (loop k l f).places_count ∙ sym ranks }

    messages : (k : ℕ) → k < length b.trace → length (item_plan p k).pairs ≡ message_count b meshes k
    messages k l =
        ap length (pairs k l)
        ∙ (ap (λ (z : List ℕ). length (pairs_below (passes b.mesh meshes z) p.ranks p.ranks)) (exchange_is b meshes p are_exchanges k l)
        ∙ ap (λ (n : ℕ). length (pairs_below (passes b.mesh meshes (exchange_of b meshes k)) n n)) ranks)

    places : (k : ℕ) → k < length b.trace → is_free (item_at b k) ≡ true → sum (site_plan p (loop_of (item_at b k))).places ≡ place_count b meshes (loop_of (item_at b k))
    places k l f =
        let s : ℕ = loop_of (item_at b k) in
        let i = loop k l f in
        sym (sum_of_list (site_plan p s).places)
        ∙ (ap (sum_below (slice_index (site_plan p s).places)) i.places_count
        ∙ same_sum (slice_index (site_plan p s).places) (places_of meshes (site_at b s)) (length meshes) i.places)

    by_kind : (k : ℕ) → k < length b.trace → (t : Bool) → is_free (item_at b k) ≡ t
        → cond t (2 * length (item_plan p k).pairs + 2 * sum (site_plan p (loop_of (item_at b k))).places) 1
        ≡ cond t (2 * message_count b meshes k + 2 * place_count b meshes (loop_of (item_at b k))) 1
    by_kind k l true f =
        ap (λ z. 2 * z + 2 * sum (site_plan p (loop_of (item_at b k))).places) (messages k l)
        ∙ ap (λ z. 2 * message_count b meshes k + 2 * z) (places k l f)
    by_kind k l false f = refl

    pub outline_steps : step_count (step_outline b meshes p) ≡ program_steps b meshes
    outline_steps =
        steps_counted b meshes p counts
        ∙ same_sum (item_step_count b meshes p) (steps_at b meshes) (length b.trace) (λ k l. by_kind k l (is_free (item_at b k)) refl)

pub proper_steps : (b : BoundValue) (meshes : List RankMesh) (p : PlanValue) → IsInRange b → Proper b meshes p → p.steps ≡ program_steps b meshes
proper_steps b meshes p range h = h.steps ∙ outline_steps b meshes range p h.ranks h.exchanges h.pairs h.loops

pub certified_steps : ((b : BoundValue) → Fits b → IsInRange b) → CertifiedHaveSteps
certified_steps in_range b meshes bytes p fits c = proper_steps b meshes p (in_range b fits) c.proper
