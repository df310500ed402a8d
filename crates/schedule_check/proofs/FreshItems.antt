-- The marks of an item are those of the plan's.
use Rattle.std.proofs.Common.{◌≡◌, ℕ, ◌*◌, ◌^◌, ◌<◌, ◌≤◌, Bool, true, false, refl, sym, ap, subst, ◌∙◌, arith, ⊎_elim, List, length, get_or}
use Rattle.std.specs.Prelude.{slice_index}
use Rattle.std.proofs.lemmas.Bool.{cases_lt}
use Rattle.std.proofs.lemmas.List.{length-map, get_or-map, get_or_past}
use Rattle.local_mesh.specs.declared.types.RankMesh.{RankMesh}
use Rattle.colouring.specs.declared.types.Colours.{Colours}
use Rattle.schedule_steps.specs.Outline.{Outline}
use Rattle.bound_program.specs.Values.{BoundValue, Free}
use Rattle.bound_program.specs.Fits.{site_at}
use Rattle.step_judge.specs.Run.{Run, begun_at, ended_at}
use Rattle.step_judge.specs.Item.{Item, no_run, pair_at, linked}
use Rattle.step_judge.specs.NewRun.{ends_before}
use Rattle.std.proofs.lemmas.Nat.{mul-le}
use Rattle.step_judge.specs.NewItem.{free_item}
use Rattle.step_judge.specs.Fresh.{IsFreshRun, IsFreshItem}
use Rattle.loop_plan.specs.declared.types.Pair.{Pair}
use Rattle.loop_plan.specs.Values.{PlanValue, SitePlanValue, item_plan, site_plan, places_in}
use Rattle.loop_plan.specs.Needs.{item_at}
use Rattle.loop_plan.specs.Pairs.{sets_of, core_in, passes, pairs_below}
use Rattle.loop_plan.specs.StepOutline.{is_free, loop_of, loop_at, step_outline}
use Rattle.schedule_check.specs.Froms.{froms, tos}
use Rattle.schedule_check.specs.NewPlaces.{AreNewPlaces, AreColoured, blocks_of, inner_of}
use Rattle.schedule_check.proofs.Holds.{holds, found, below_holds, in_range, nth_holds, no_pair, Apart, below_apart, pairs_few}
use Rattle.lemmas.proofs.Numbers.{all_false}

module _ (b : BoundValue) (meshes : List RankMesh) (p : PlanValue) (k : ℕ) where
  abbrev o : Outline
  o = step_outline b meshes p

  module _ (pairs : List Pair) (runs : List Run) (cs : List Colours)
      (free : is_free (item_at b k) ≡ true)
      (sent : pairs ≡ pairs_below (passes b.mesh meshes (item_plan p k).exchange) p.ranks p.ranks)
      (ranks : p.ranks ≡ length meshes)
      (count : length runs ≡ length meshes)
      (colours : cs ≡ (site_plan p (loop_at b meshes p k)).colours)
      (counts : (r : ℕ) → r < length meshes → length (inner_of cs r) ≡ places_in p (loop_at b meshes p k) r)
      (each : (r : ℕ) → r < length meshes → AreNewPlaces p.block (blocks_of cs r) (inner_of cs r)
      (core_in (sets_of meshes r) (site_at b (loop_at b meshes p k)).set) (get_or runs r no_run))
    where
      abbrev w : Item
      w = free_item (froms pairs) (tos pairs) runs

      link : (s r : ℕ) → linked w s r ≡ holds pairs s r
      link s r = found pairs s r

      none : (P : Run → Type 0) → ((r : ℕ) → r < length meshes → P (get_or runs r no_run)) → P no_run → (r : ℕ) → P (get_or runs r no_run)
      none P here gone r = ⊎_elim
          (λ (l : r < length meshes). here r l)
          (λ (g : length meshes ≤ r). subst P (sym (get_or_past runs r no_run (omega arith))) gone)
          (cases_lt r (length meshes))

      run_fresh : (r : ℕ) → r < length meshes → IsFreshRun o k r (get_or runs r no_run)
      run_fresh r l =
          let n : length (inner_of cs r) ≡ places_in p (loop_at b meshes p k) r = counts r l in
          record {
            number = (each r l).number ∙ n;
            begun = (each r l).begun;
            ended = (each r l).ended;
            order = λ x y lx ly. (each r l).order x y (omega arith) (omega arith)
                ∙ ap (λ (z : List Colours). ends_before p.block (blocks_of z r) (inner_of z r) x y) colours;
            cores = λ x lx. (each r l).cores x (omega arith);
          }

      pub item_fresh : IsFreshItem o k w
      item_fresh = record {
        frees = sym free;
        open_join = refl;
        links = λ s r h ls lr. link s r ∙ (ap (λ z. holds z s r) sent ∙ below_holds (passes b.mesh meshes (item_plan p k).exchange) p.ranks p.ranks s r lr ls);
        ranked = λ s r h. in_range (passes b.mesh meshes (item_plan p k).exchange) p.ranks p.ranks s r (ap (λ z. holds z s r) (sym sent) ∙ (sym (link s r) ∙ h));
        unsent = λ s r. all_false (length (froms pairs)) (pair_at (froms pairs) (tos pairs) s r);
        unreceived = λ s r. all_false (length (tos pairs)) (pair_at (froms pairs) (tos pairs) s r);
        unbegun = λ r x. none (λ v. begun_at v x ≡ false) (λ a l. (each a l).begun x) refl r;
        unended = λ r x. none (λ v. ended_at v x ≡ false) (λ a l. (each a l).ended x) refl r;
        count = λ h. count ∙ sym ranks;
        runs = λ r h lr. run_fresh r (omega arith);
      }

-- the same, where the item runs loop s
pub loop_fresh : (b : BoundValue) (meshes : List RankMesh) (p : PlanValue) (k s : ℕ) (pairs : List Pair) (runs : List Run) (l : SitePlanValue)
    → item_at b k ≡ Free s
    → pairs ≡ pairs_below (passes b.mesh meshes (item_plan p k).exchange) p.ranks p.ranks
    → p.ranks ≡ length meshes
    → length runs ≡ length meshes
    → l ≡ site_plan p s
    → AreColoured p.block (length meshes) l
    → ((r : ℕ) → r < length meshes → AreNewPlaces p.block (blocks_of l.colours r) (inner_of l.colours r)
    (core_in (sets_of meshes r) (site_at b s).set) (get_or runs r no_run))
    → IsFreshItem (step_outline b meshes p) k (free_item (froms pairs) (tos pairs) runs)
loop_fresh b meshes p k s pairs runs l is sent ranks count plan coloured each =
    let at : loop_at b meshes p k ≡ s = ap loop_of is in
    item_fresh b meshes p k pairs runs l.colours (ap is_free is) sent ranks count
    (ap (λ (z : SitePlanValue). z.colours) plan ∙ ap (λ z. (site_plan p z).colours) (sym at))
    (λ r lt. coloured.inner r lt ∙ (ap (λ (z : SitePlanValue). slice_index z.places r) plan ∙ ap (λ z. places_in p z r) (sym at)))
    (λ r lt. subst (λ z. AreNewPlaces p.block (blocks_of l.colours r) (inner_of l.colours r) (core_in (sets_of meshes r) (site_at b z).set) (get_or runs r no_run)) (sym at) (each r lt))

-- what is asked of messages
module _ (t : ℕ → ℕ → Bool) (n : ℕ) (pairs : List Pair) (e : pairs ≡ pairs_below t n n) where
  apart_pairs : Apart pairs
  apart_pairs = subst Apart (sym e) (below_apart t n n)

  from_at : (i : ℕ) → i < length pairs → get_or (froms pairs) i 0 ≡ (get_or pairs i no_pair).from
  from_at i l = get_or-map (λ (q : Pair). q.from) pairs i no_pair 0 l

  to_at : (i : ℕ) → i < length pairs → get_or (tos pairs) i 0 ≡ (get_or pairs i no_pair).to
  to_at i l = get_or-map (λ (q : Pair). q.to) pairs i no_pair 0 l

  within : (i : ℕ) → i < length pairs → ((get_or pairs i no_pair).from < n) × ((get_or pairs i no_pair).to < n)
  within i l = in_range t n n (get_or pairs i no_pair).from (get_or pairs i no_pair).to (ap (λ z. holds z (get_or pairs i no_pair).from (get_or pairs i no_pair).to) (sym e) ∙ nth_holds pairs i l)

  inside : (i : ℕ) → i < length (froms pairs) → i < length pairs
  inside i l = subst (λ z. i < z) (length-map pairs (λ (q : Pair). q.from)) l

  pub froms_below : (i : ℕ) → i < length (froms pairs) → get_or (froms pairs) i 0 < n
  froms_below i l = subst (λ z. z < n) (sym (from_at i (inside i l))) (within i (inside i l)).0

  pub tos_below : (i : ℕ) → i < length (tos pairs) → get_or (tos pairs) i 0 < n
  tos_below i l =
      let m : i < length pairs = subst (λ z. i < z) (length-map pairs (λ (q : Pair). q.to)) l in
      subst (λ z. z < n) (sym (to_at i m)) (within i m).1

  pub as_many : length (tos pairs) ≡ length (froms pairs)
  as_many = length-map pairs (λ (q : Pair). q.to) ∙ sym (length-map pairs (λ (q : Pair). q.from))

  pub own_places : (i : ℕ) → i < length (froms pairs) → pair_at (froms pairs) (tos pairs) (get_or (froms pairs) i 0) (get_or (tos pairs) i 0) ≡ i
  own_places i l =
      subst (λ z. pair_at (froms pairs) (tos pairs) z (get_or (tos pairs) i 0) ≡ i) (sym (from_at i (inside i l)))
      (subst (λ z. pair_at (froms pairs) (tos pairs) (get_or pairs i no_pair).from z ≡ i) (sym (to_at i (inside i l))) (apart_pairs i (inside i l)))

  pub few_pairs : n ≤ 64 → length (froms pairs) < 2 ^ 32
  few_pairs h =
      let a : length (froms pairs) ≡ length pairs = length-map pairs (λ (q : Pair). q.from) in
      let d : length pairs ≤ n * n = subst (λ (z : List Pair). length z ≤ n * n) (sym e) (pairs_few t n n) in
      let c : n * n ≤ 64 * 64 = mul-le n n 64 64 h h in
      omega arith
