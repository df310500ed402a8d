-- Two plans that are alike have one text and one number of steps.
use Rattle.std.proofs.Common.{◌≡◌, ◌≢◌, ◌/◌, ◌<◌, ◌≤◌, ℕ, Bool, true, false, nat_eq, List, [], length, get_or, map, refl, sym, ap, ◌∙◌, arith, ⊎_elim}
use Rattle.std.specs.Map.{lookup}
use Rattle.std.proofs.lemmas.Bool.{cases_lt}
use Rattle.std.proofs.lemmas.List.{ext_get_or, get_or-map, get_or_past, length-map}
use Rattle.std.proofs.Math.Path.{fun_ext}
use Rattle.lemmas.specs.Below.{listed, count_below}
use Rattle.lemmas.proofs.Below.{listed_agree, length_listed, at_listed}
use Rattle.mesh_decl.specs.Mesh.{set_count, dat_count}
use Rattle.mesh_decl.proofs.Public.{some_in}
use Rattle.local_mesh.specs.declared.types.RankMesh.{RankMesh}
use Rattle.colouring.specs.declared.types.Colours.{Colours}
use Rattle.schedule_model.proofs.Public.{by_bit}
use Rattle.schedule_steps.specs.Outline.{Outline}
use Rattle.schedule_steps.specs.Peaks.{step_count}
use Rattle.bound_program.specs.Values.{BoundValue}
use Rattle.bound_program.specs.Fits.{site_at}
use Rattle.loop_plan.specs.Values.{SitePlanValue, ItemPlanValue, PlanValue, site_plan, item_plan, no_item_plan, no_site_plan, or_none}
use Rattle.loop_plan.specs.Needs.{item_modifies, item_needs, exchanges, item_at}
use Rattle.loop_plan.specs.Pairs.{passes, sets_of, core_in}
use Rattle.loop_plan.specs.Places.{runs_free}
use Rattle.loop_plan.specs.PlanText.{plan_text}
use Rattle.loop_plan.specs.StepOutline.{is_free, loop_of, step_outline}
use Rattle.loop_plan.specs.OnePlan.{AreAlike}
use Rattle.loop_plan.proofs.AlikeMeshes.{length_same, sets_same, places_same, passes_same, core_same, halo_lines_same}
use Rattle.loop_plan.proofs.AlikeLists.{Lists, lists, none, or_empty, entry, found_lists, found_at, loops_same, items_same}

module _ (b : BoundValue) (meshes others : List RankMesh) (p q : PlanValue) (h : AreAlike b meshes others p q) where
  ranks_same : length meshes ≡ length others
  ranks_same = length_same meshes others h.alike

  exchanges_same : (k d : ℕ) → exchanges b p k d ≡ exchanges b q k d
  exchanges_same k d =
      by_bit (λ i. item_modifies b i d) (λ i. item_needs b i d) (λ i. exchanges b p i d) (h.proper.exchanges.history d) k
      ∙ sym (by_bit (λ i. item_modifies b i d) (λ i. item_needs b i d) (λ i. exchanges b q i d) (h.other_proper.exchanges.history d) k)

  past_items : (u : PlanValue) (k : ℕ) → length u.items ≤ k → item_plan u k ≡ no_item_plan
  unfolding item_plan
  past_items u k l = get_or_past u.items k no_item_plan l

  pub exchange_same : (k : ℕ) → (item_plan p k).exchange ≡ (item_plan q k).exchange
  exchange_same k = ⊎_elim
      (λ (l : k < length b.trace).
      h.proper.exchanges.in_order k l
      ∙ (listed_agree (dat_count b.mesh) (exchanges b p k) (exchanges b q k) (λ d ld. exchanges_same k d)
      ∙ sym (h.other_proper.exchanges.in_order k l)))
      (λ (l : length b.trace ≤ k).
      ap (λ (i : ItemPlanValue). i.exchange) (past_items p k (let e = h.proper.items in omega arith) ∙ sym (past_items q k (let e = h.other_proper.items in omega arith))))
      (cases_lt k (length b.trace))

  exchange_at : (u : PlanValue) (k : ℕ) → k < length u.items → get_or (map (λ (i : ItemPlanValue). i.exchange) u.items) k [] ≡ (item_plan u k).exchange
  unfolding item_plan
  exchange_at u k l = get_or-map (λ (i : ItemPlanValue). i.exchange) u.items k no_item_plan [] l

  exchange_lists : map (λ (i : ItemPlanValue). i.exchange) p.items ≡ map (λ (i : ItemPlanValue). i.exchange) q.items
  exchange_lists =
      let lp : length (map (λ (i : ItemPlanValue). i.exchange) p.items) ≡ length p.items = length-map p.items (λ (i : ItemPlanValue). i.exchange) in
      let lq : length (map (λ (i : ItemPlanValue). i.exchange) q.items) ≡ length q.items = length-map q.items (λ (i : ItemPlanValue). i.exchange) in
      let ep : length p.items ≡ length b.trace = h.proper.items in
      let eq : length q.items ≡ length b.trace = h.other_proper.items in
      ext_get_or [] (map (λ (i : ItemPlanValue). i.exchange) p.items) (map (λ (i : ItemPlanValue). i.exchange) q.items) (omega arith)
      (λ k l. exchange_at p k (omega arith) ∙ (exchange_same k ∙ sym (exchange_at q k (omega arith))))

  -- ---- loops that run

  module _ (s : ℕ) (ls : s < length b.sites) (runs : runs_free b s ≡ true) where
    abbrev mine : SitePlanValue
    mine = site_plan p s

    abbrev yours : SitePlanValue
    yours = site_plan q s

    places_lists : mine.places ≡ yours.places
    places_lists =
        let m = h.proper.loops s ls runs in
        let n = h.other_proper.loops s ls runs in
        let e : length mine.places ≡ length meshes = m.places_count in
        let f : length yours.places ≡ length others = n.places_count in
        let r : length meshes ≡ length others = ranks_same in
        ext_get_or 0 mine.places yours.places (omega arith)
        (λ k l. m.places k (omega arith) ∙ (places_same meshes others h.alike (site_at b s) k ∙ sym (n.places k (omega arith))))

    count_mine : length mine.colours ≡ length meshes
    count_mine = (h.proper.loops s ls runs).colours_count

    count_yours : length yours.colours ≡ length meshes
    count_yours = (h.other_proper.loops s ls runs).colours_count ∙ sym ranks_same

    module _ (r : ℕ) (lr : r < length meshes) (c d : Colours) where
      blocks_at : (get_or mine.colours r c).blocks.items ≡ (get_or yours.colours r d).blocks.items
      blocks_at = (h.colours s r c d ls runs lr).0

      inner_at : (get_or mine.colours r c).inner.items ≡ (get_or yours.colours r d).inner.items
      inner_at = (h.colours s r c d ls runs lr).1

    same_colours : (f : Colours → List ℕ) → ((r : ℕ) → r < length meshes → (c d : Colours) → f (get_or mine.colours r c) ≡ f (get_or yours.colours r d)) → map f mine.colours ≡ map f yours.colours
    same_colours f at =
        let lm : length (map f mine.colours) ≡ length mine.colours = length-map mine.colours f in
        let ly : length (map f yours.colours) ≡ length yours.colours = length-map yours.colours f in
        let em = count_mine in
        let ey = count_yours in
        ext_get_or [] (map f mine.colours) (map f yours.colours) (omega arith)
        (λ r l.
        let a : r < length mine.colours = omega arith in
        let z : r < length yours.colours = omega arith in
        let c : Colours = some_in mine.colours r a in
        let d : Colours = some_in yours.colours r z in
        get_or-map f mine.colours r c [] a ∙ (at r (omega arith) c d ∙ sym (get_or-map f yours.colours r d [] z)))

    same_loop : lists (site_plan p s) ≡ lists (site_plan q s)
    same_loop = rw (places_lists, same_colours (λ (c : Colours). c.blocks.items) blocks_at, same_colours (λ (c : Colours). c.inner.items) inner_at) refl

  -- ---- all loops

  abbrev keys : List ℕ
  keys = listed (length b.sites) (runs_free b)

  module _ (u : PlanValue) (ks : map (λ (e : ℕ × SitePlanValue). e.0) u.sites ≡ keys) where
    key_at : (i : ℕ) (d : ℕ × SitePlanValue) → i < length u.sites → (get_or u.sites i d).0 ≡ get_or keys i 0
    key_at i d l = sym (get_or-map (λ (e : ℕ × SitePlanValue). e.0) u.sites i d 0 l) ∙ ap (λ (zs : List ℕ). get_or zs i 0) ks

    count_keys : length u.sites ≡ count_below (length b.sites) (runs_free b)
    count_keys = sym (length-map u.sites (λ (e : ℕ × SitePlanValue). e.0)) ∙ (ap (λ (zs : List ℕ). length zs) ks ∙ length_listed (length b.sites) (runs_free b))

    apart : (i : ℕ) (d : ℕ × SitePlanValue) → i < length u.sites → (j : ℕ) → j < i → (get_or u.sites j d).0 ≢ (get_or u.sites i d).0
    apart i d l j lj e =
        let many = count_keys in
        let a : count_below (get_or keys j 0) (runs_free b) ≡ j = (at_listed (length b.sites) j 0 (runs_free b) (omega arith)).2 in
        let z : count_below (get_or keys i 0) (runs_free b) ≡ i = (at_listed (length b.sites) i 0 (runs_free b) (omega arith)).2 in
        let same : get_or keys j 0 ≡ get_or keys i 0 = sym (key_at j d (omega arith)) ∙ (e ∙ key_at i d l) in
        let equal : j ≡ i = sym a ∙ (ap (λ n. count_below n (runs_free b)) same ∙ z) in
        absurd (omega arith)

    entry_at : (i : ℕ) (d : ℕ × SitePlanValue) → i < length u.sites → (get_or u.sites i d).1 ≡ site_plan u (get_or keys i 0)
    unfolding site_plan
    entry_at i d l = sym (ap or_none (ap (λ n. lookup (nat_eq n) u.sites) (sym (key_at i d l)) ∙ found_at u.sites i d l (apart i d l)))

    entry_is : (i : ℕ) (d : ℕ × SitePlanValue) → i < length u.sites → entry (get_or u.sites i d) ≡ (get_or keys i 0, lists (site_plan u (get_or keys i 0)))
    entry_is i d l =
        ap (λ (n : ℕ). (n, lists (get_or u.sites i d).1)) (key_at i d l)
        ∙ ap (λ (z : SitePlanValue). (get_or keys i 0, lists z)) (entry_at i d l)

  entries_same : map entry p.sites ≡ map entry q.sites
  entries_same =
      let lp : length (map entry p.sites) ≡ length p.sites = length-map p.sites entry in
      let lq : length (map entry q.sites) ≡ length q.sites = length-map q.sites entry in
      let cp = count_keys p h.proper.sites in
      let cq = count_keys q h.other_proper.sites in
      let empty : ℕ × Lists = (0, none) in
      let d : ℕ × SitePlanValue = (0, no_site_plan) in
      ext_get_or empty (map entry p.sites) (map entry q.sites) (omega arith)
      (λ i l.
      let a : i < length p.sites = omega arith in
      let z : i < length q.sites = omega arith in
      let at = at_listed (length b.sites) i 0 (runs_free b) (omega arith) in
      get_or-map entry p.sites i d empty a
      ∙ (entry_is p h.proper.sites i d a
      ∙ (ap (λ (v : Lists). (get_or keys i 0, v)) (same_loop (get_or keys i 0) at.0 at.1)
      ∙ (sym (entry_is q h.other_proper.sites i d z) ∙ sym (get_or-map entry q.sites i d empty z)))))

  pub lists_same : (s : ℕ) → lists (site_plan p s) ≡ lists (site_plan q s)
  unfolding site_plan
  lists_same s = found_lists s p.sites ∙ (ap (λ es. or_empty (lookup (nat_eq s) es)) entries_same ∙ sym (found_lists s q.sites))

  -- ---- steps

  rank_count : p.ranks ≡ q.ranks
  rank_count = h.proper.ranks ∙ (ranks_same ∙ sym h.other_proper.ranks)

  abbrev outline : ℕ → (ℕ → ℕ → ℕ → Bool) → (ℕ → ℕ → ℕ) → (ℕ → ℕ → ℕ → Bool) → ℕ → (ℕ → ℕ → ℕ → ℕ) → (ℕ → ℕ → ℕ → ℕ) → Outline
  outline ranks sends count core size block_colour colour = record {
    items = length b.trace;
    ranks = ranks;
    is_free = λ k. is_free (item_at b k);
    sends = sends;
    count = count;
    executes = λ k r x. true;
    is_core = core;
    block = λ k r x. x / size;
    block_colour = block_colour;
    colour = colour;
  }

  abbrev sends_of : List RankMesh → PlanValue → ℕ → ℕ → ℕ → Bool
  sends_of ms u k s r = passes b.mesh ms (item_plan u k).exchange s r

  abbrev count_of : PlanValue → ℕ → ℕ → ℕ
  count_of u k r = get_or (lists (site_plan u (loop_of (item_at b k)))).places r 0

  abbrev core_of : List RankMesh → ℕ → ℕ → ℕ → Bool
  core_of ms k r x = get_or (core_in (sets_of ms r) (site_at b (loop_of (item_at b k))).set) x false

  abbrev block_colour_of : PlanValue → ℕ → ℕ → ℕ → ℕ
  block_colour_of u k r c = get_or (get_or (lists (site_plan u (loop_of (item_at b k)))).blocks r []) c 0

  abbrev colour_of : PlanValue → ℕ → ℕ → ℕ → ℕ
  colour_of u k r x = get_or (get_or (lists (site_plan u (loop_of (item_at b k)))).inner r []) x 0

  sends_same : sends_of meshes p ≡ sends_of others q
  sends_same = fun_ext (λ k. fun_ext (λ s. fun_ext (λ r.
      passes_same meshes others h.alike b.mesh (item_plan p k).exchange s r ∙ ap (λ (dats : List ℕ). passes b.mesh others dats s r) (exchange_same k))))

  counts_same : count_of p ≡ count_of q
  counts_same = fun_ext (λ k. fun_ext (λ r. ap (λ (v : Lists). get_or v.places r 0) (lists_same (loop_of (item_at b k)))))

  cores_same : core_of meshes ≡ core_of others
  cores_same = fun_ext (λ k. fun_ext (λ r. fun_ext (λ x.
      ap (λ (zs : List Bool). get_or zs x false) (core_same (sets_of meshes r) (sets_of others r) (sets_same meshes others h.alike r) (site_at b (loop_of (item_at b k))).set))))

  block_colours_same : block_colour_of p ≡ block_colour_of q
  block_colours_same = fun_ext (λ k. fun_ext (λ r. fun_ext (λ c. ap (λ (v : Lists). get_or (get_or v.blocks r []) c 0) (lists_same (loop_of (item_at b k))))))

  colours_same : colour_of p ≡ colour_of q
  colours_same = fun_ext (λ k. fun_ext (λ r. fun_ext (λ x. ap (λ (v : Lists). get_or (get_or v.inner r []) x 0) (lists_same (loop_of (item_at b k))))))

  pub outlines_same : step_outline b meshes p ≡ step_outline b others q
  outlines_same =
      ap (λ z. outline z (sends_of meshes p) (count_of p) (core_of meshes) p.block (block_colour_of p) (colour_of p)) rank_count
      ∙ (ap (λ z. outline q.ranks z (count_of p) (core_of meshes) p.block (block_colour_of p) (colour_of p)) sends_same
      ∙ (ap (λ z. outline q.ranks (sends_of others q) z (core_of meshes) p.block (block_colour_of p) (colour_of p)) counts_same
      ∙ (ap (λ z. outline q.ranks (sends_of others q) (count_of q) z p.block (block_colour_of p) (colour_of p)) cores_same
      ∙ (ap (λ z. outline q.ranks (sends_of others q) (count_of q) (core_of others) z (block_colour_of p) (colour_of p)) h.block
      ∙ (ap (λ z. outline q.ranks (sends_of others q) (count_of q) (core_of others) q.block z (colour_of p)) block_colours_same
      ∙ ap (λ z. outline q.ranks (sends_of others q) (count_of q) (core_of others) q.block (block_colour_of q) z) colours_same)))))

  steps_same : p.steps ≡ q.steps
  steps_same = h.proper.steps ∙ (ap step_count outlines_same ∙ sym h.other_proper.steps)

  text_same : plan_text b meshes p ≡ plan_text b others q
  text_same =
      let halos = halo_lines_same b.mesh meshes others h.alike (set_count b.mesh) in
      let loops = loops_same p.sites q.sites entries_same in
      let items = items_same b.mesh 0 b.trace p.items q.items exchange_lists in
      rw (rank_count, h.block, halos, loops, items) refl

pub one_plan_text : (b : BoundValue) (meshes others : List RankMesh) (p q : PlanValue) → AreAlike b meshes others p q → (plan_text b meshes p ≡ plan_text b others q) × (p.steps ≡ q.steps)
one_plan_text b meshes others p q h = (text_same b meshes others p q h, steps_same b meshes others p q h)
