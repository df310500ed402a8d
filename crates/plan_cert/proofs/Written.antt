-- The text of a plan gives that plan.
use Rattle.std.proofs.Common.{◌≡◌, ℕ, zero, suc, ◌+◌, ◌^◌, ◌<◌, ◌≤◌, refl, sym, ap, subst, ◌∙◌, arith, List, [], ◌∷◌, ◌++◌, append_assoc, append-nil, length, get_or, take, map, cond, Bool, true, false}
use Rattle.std.specs.Prelude.{codes, Some}
use Rattle.std.specs.List.{All, flat_map}
use Rattle.std.specs.Fmt.{decimal}
use Rattle.std.proofs.lemmas.Grind.{flat_map-append}
use Rattle.std.proofs.lemmas.List.{get_or-map, length-map, take_all}
use Rattle.op_num.specs.Spelling.{number_of}
use Rattle.op_num.specs.Lines.{line_of, text_of_lines}
use Rattle.mesh_decl.specs.Mesh.{set_count}
use Rattle.mesh_decl.proofs.Public.{some_in}
use Rattle.local_mesh.specs.declared.types.RankMesh.{RankMesh}
use Rattle.colouring.specs.declared.types.Colours.{Colours}
use Rattle.bound_program.specs.Values.{BoundValue}
use Rattle.bound_program.specs.Fits.{site_at}
use Rattle.loop_plan.specs.Values.{SitePlanValue, PlanValue, site_plan, item_plan}
use Rattle.loop_plan.specs.Needs.{item_at}
use Rattle.loop_plan.specs.Pairs.{sets_of}
use Rattle.loop_plan.specs.Places.{maps_of, reducing, runs_free}
use Rattle.loop_plan.specs.Proper.{Separate, IsSitePlan, Proper}
use Rattle.loop_plan.specs.PlanText.{Line, halo_line, halo_lines, all_halo_lines, site_line, site_lines, loop_lines, item_line, item_lines, plan_text}
use Rattle.loop_plan.specs.StepCounts.{exchange_of}
use Rattle.loop_plan.proofs.Public.{sets_at, halos_more, sites_more, items_more}
use Rattle.plan_cert.specs.Awaited.{ColoursOf, Done, awaited_halo, awaited_set, awaited_halos, awaited_ranks, awaited_sites, awaited_item, awaited_items, awaited, header_line, done_line, ColourLists, AreColours, IsSizes, places_in, FitsLine, FitLines}
use Rattle.plan_cert.specs.Certified.{all, lists_of, colours_in, Certified}
use Rattle.plan_cert.specs.Laws.{HasShortColours, WrittenAreCertified}
use Rattle.plan_cert.proofs.Reading.{all_append, fit_append}
use Rattle.plan_cert.proofs.ProgramSteps.{exchange_is}
use Rattle.plan_cert.proofs.ByNumber.{sites_flat}
use Rattle.plan_cert.proofs.Below.{below, fits_below, fits_line, none_below, below_agree, ones_are, flat_below, texts_below, one_more}

module _ (b : BoundValue) (meshes : List RankMesh) (p : PlanValue) (proper : Proper b meshes p) where
  -- ---- halos

  halo_at : ℕ → ℕ → List ℕ
  halo_at s r = line_of (halo_line b.mesh (sets_of meshes r) s r)

  set_lines : ℕ → List (List ℕ)
  set_lines s = below (λ r. halo_at s r ∷ []) (length meshes)

  set_text : (s k : ℕ) → k ≤ length meshes → all (below (λ r. halo_at s r ∷ []) k) ≡ text_of_lines (halo_lines b.mesh s 0 (take k meshes))
  unfolding halo_at
  set_text s zero l = refl
  set_text s (suc k) l =
      let m : RankMesh = some_in meshes k (omega arith) in
      let e : k + 1 ≡ suc k = omega arith in
      halos_more b.mesh s k meshes m (sets_of meshes k) [] (all (below (λ r. halo_at s r ∷ []) k)) (all (below (λ r. halo_at s r ∷ []) (suc k))) (omega arith)
      (sets_at meshes k m (omega arith)) (set_text s k (omega arith)) (one_more (below (λ r. halo_at s r ∷ []) k) (halo_at s k))
      ∙ ap (λ z. text_of_lines (halo_lines b.mesh s 0 (take z meshes))) e

  halos_text : (n : ℕ) → all (below set_lines n) ≡ text_of_lines (all_halo_lines b.mesh meshes n)
  unfolding set_lines
  halos_text zero = refl
  halos_text (suc n) =
      all_append (below set_lines n) (set_lines n)
      ∙ (ap (λ z. z ++ all (set_lines n)) (halos_text n)
      ∙ (ap (λ z. text_of_lines (all_halo_lines b.mesh meshes n) ++ z)
      (set_text n (length meshes) (omega arith) ∙ ap (λ z. text_of_lines (halo_lines b.mesh n 0 z))
      (take_all (length meshes) meshes (omega arith)))
      ∙ sym (flat_map-append line_of (all_halo_lines b.mesh meshes n) (halo_lines b.mesh n 0 meshes))))

  halos_fit : FitLines b meshes p.block (awaited_halos b meshes) (below set_lines (set_count b.mesh)) []
  unfolding set_lines halo_at
  halos_fit = subst (FitLines b meshes p.block (awaited_halos b meshes) (below set_lines (set_count b.mesh))) (none_below (set_count b.mesh))
      (fits_below b meshes p.block (awaited_set b meshes) set_lines (λ s. []) (set_count b.mesh) (λ s ls.
      subst (FitLines b meshes p.block (awaited_set b meshes s) (set_lines s)) (none_below (length meshes))
      (fits_below b meshes p.block (λ r. awaited_halo b meshes s r ∷ []) (λ r. halo_at s r ∷ []) (λ r. []) (length meshes) (λ r lr.
      fits_line b meshes p.block (awaited_halo b meshes s r) (halo_at s r) [] (refl, refl)))))

  -- ---- items

  item_line_at : ℕ → List ℕ
  item_line_at k = line_of (item_line b.mesh k (item_at b k) (exchange_of b meshes k))

  items_text : (k : ℕ) → k ≤ length b.trace → all (below (λ i. item_line_at i ∷ []) k) ≡ text_of_lines (item_lines b.mesh 0 (take k b.trace) (take k p.items))
  unfolding item_line_at item_plan item_at
  items_text zero l = refl
  items_text (suc k) l =
      let e : k + 1 ≡ suc k = omega arith in
      items_more b.mesh k b.trace p.items (item_at b k) (exchange_of b meshes k) [] (all (below (λ i. item_line_at i ∷ []) k)) (all (below (λ i. item_line_at i ∷ []) (suc k)))
      (sym proper.items) (omega arith) refl (exchange_is b meshes p proper.exchanges k (omega arith)) (items_text k (omega arith)) (one_more (below (λ i. item_line_at i ∷ []) k) (item_line_at k))
      ∙ ap (λ z. text_of_lines (item_lines b.mesh 0 (take z b.trace) (take z p.items))) e

  all_items_text : all (below (λ i. item_line_at i ∷ []) (length b.trace)) ≡ text_of_lines (item_lines b.mesh 0 b.trace p.items)
  all_items_text =
      items_text (length b.trace) (omega arith)
      ∙ (ap (λ z. text_of_lines (item_lines b.mesh 0 z (take (length b.trace) p.items))) (take_all (length b.trace) b.trace (omega arith))
      ∙ ap (λ z. text_of_lines (item_lines b.mesh 0 b.trace z)) (take_all (length b.trace) p.items (let e = proper.items in omega arith)))

  items_fit : FitLines b meshes p.block (awaited_items b meshes) (below (λ i. item_line_at i ∷ []) (length b.trace)) []
  unfolding item_line_at
  items_fit = subst (FitLines b meshes p.block (awaited_items b meshes) (below (λ i. item_line_at i ∷ []) (length b.trace))) (none_below (length b.trace))
      (fits_below b meshes p.block (λ k. awaited_item b meshes k ∷ []) (λ k. item_line_at k ∷ []) (λ k. []) (length b.trace) (λ k l.
      fits_line b meshes p.block (awaited_item b meshes k) (item_line_at k) [] (refl, refl)))

  -- ---- loops

  module _ (read : (n : ℕ) → n < 2 ^ 64 → number_of (decimal n) ≡ Some n) (short : HasShortColours b p) where
    words_are : (cs : List ℕ) → All (λ k. k < 2 ^ 32) cs → AreColours (map decimal cs) cs
    words_are [] h = tt
    words_are (c ∷ cs) h =
        let l : c < 2 ^ 32 = h zero 0 (omega arith) in
        (read c (omega arith), l, words_are cs (λ k d m. h (suc k) d (omega arith)))

    line_with : ℕ → ℕ → ColourLists → List ℕ
    line_with s r c = line_of ((codes "site" ∷ decimal s ∷ codes "rank" ∷ decimal r ∷ codes "places" ∷ decimal (places_in b meshes s r)
        ∷ codes "blocks" ∷ map decimal c.blocks) ++ (codes "inner" ∷ map decimal c.inner))

    none : ColourLists
    none = record { blocks = []; inner = [] }

    by_rank : ℕ → List ColourLists
    by_rank s = map lists_of (site_plan p s).colours

    colours_at : ℕ → ℕ → ColourLists
    colours_at s r = get_or (by_rank s) r none

    site_line_at : ℕ → ℕ → List ℕ
    site_line_at s r = line_with s r (colours_at s r)

    fit_with : (s r : ℕ) (c : Colours) → Separate b.mesh (maps_of meshes r) (reducing (site_at b s).args) (places_in b meshes s r) p.block c
        → All (λ k. k < 2 ^ 32) c.blocks.items → All (λ k. k < 2 ^ 32) c.inner.items
        → FitsLine b meshes p.block (ColoursOf s r) (line_with s r (lists_of c)) (lists_of c ∷ [])
    unfolding line_with
    fit_with s r c apart few_blocks few = (
      lists_of c,
      refl,
      record {
        blocks = map decimal c.blocks.items;
        inner = map decimal c.inner.items;
        are_blocks = words_are c.blocks.items few_blocks;
        are_inner = words_are c.inner.items few;
        block_count = apart.blocks_count;
        inner_count = apart.inner_count;
        is = refl;
      },
      (λ k. apart.blocks k.one k.other k.within k.other_within k.apart k.conflict k.same),
      (λ k. apart.inner k.one k.other (let l = k.within in let e = apart.inner_count in omega arith) (let l = k.other_within in let e = apart.inner_count in omega arith) k.apart k.conflict k.same),
    )

    module _ (s : ℕ) (ls : s < length b.sites) (run : runs_free b s ≡ true) where
      loop : IsSitePlan b meshes p.block s (site_plan p s)
      loop = proper.loops s ls run

      read_colours : (r : ℕ) (d : Colours) → r < length meshes → colours_at s r ≡ lists_of (get_or (site_plan p s).colours r d)
      unfolding colours_at by_rank
      read_colours r d l = get_or-map lists_of (site_plan p s).colours r d none (let e = loop.colours_count in omega arith)

      some_colours : (r : ℕ) → r < length meshes → Colours
      some_colours r l = some_in (site_plan p s).colours r (let e = loop.colours_count in omega arith)

      site_fit : (r : ℕ) → r < length meshes → FitsLine b meshes p.block (ColoursOf s r) (site_line_at s r) (colours_at s r ∷ [])
      unfolding site_line_at
      site_fit r l =
          let d : Colours = some_colours r l in
          let few = short s ls run r d (let e = loop.colours_count in omega arith) in
          subst (λ z. FitsLine b meshes p.block (ColoursOf s r) (line_with s r z) (z ∷ [])) (sym (read_colours r d l))
          (fit_with s r (get_or (site_plan p s).colours r d) (loop.colours r d l) few.0 few.1)

      line_is : (r : ℕ) (d : Colours) → r < length meshes → site_line_at s r ≡ line_of (site_line s r (get_or (site_plan p s).places r 0) (get_or (site_plan p s).colours r d))
      unfolding site_line_at line_with
      line_is r d l =
          ap (line_with s r) (read_colours r d l)
          ∙ ap (λ z. line_of (site_line s r z (get_or (site_plan p s).colours r d))) (sym (loop.places r l))

      loop_text : (k : ℕ) → k ≤ length meshes → all (below (λ r. site_line_at s r ∷ []) k) ≡ text_of_lines (site_lines s 0 (take k (site_plan p s).places) (take k (site_plan p s).colours))
      loop_text zero l = refl
      loop_text (suc k) l =
          let d : Colours = some_colours k (omega arith) in
          let e : k + 1 ≡ suc k = omega arith in
          let x = loop.places_count in
          let y = loop.colours_count in
          sites_more s k (site_plan p s).places (site_plan p s).colours d (get_or (site_plan p s).colours k d) []
          (all (below (λ r. site_line_at s r ∷ []) k)) (all (below (λ r. site_line_at s r ∷ []) (suc k)))
          (omega arith) (omega arith) refl (loop_text k (omega arith))
          (one_more (below (λ r. site_line_at s r ∷ []) k) (site_line_at s k) ∙ ap (λ z. all (below (λ r. site_line_at s r ∷ []) k) ++ z) (line_is k d (omega arith)))
          ∙ ap (λ z. text_of_lines (site_lines s 0 (take z (site_plan p s).places) (take z (site_plan p s).colours))) e

      whole_loop : text_of_lines (loop_lines (s, site_plan p s)) ≡ all (below (λ r. site_line_at s r ∷ []) (length meshes))
      whole_loop =
          let x = loop.places_count in
          let y = loop.colours_count in
          sym (loop_text (length meshes) (omega arith)
          ∙ (ap (λ z. text_of_lines (site_lines s 0 z (take (length meshes) (site_plan p s).colours))) (take_all (length meshes) (site_plan p s).places (omega arith))
          ∙ ap (λ z. text_of_lines (site_lines s 0 (site_plan p s).places z)) (take_all (length meshes) (site_plan p s).colours (omega arith))))

      whole_colours : by_rank s ≡ below (λ r. colours_at s r ∷ []) (length meshes)
      unfolding colours_at by_rank
      whole_colours =
          let e : length (map lists_of (site_plan p s).colours) ≡ length meshes = length-map (site_plan p s).colours lists_of ∙ loop.colours_count in
          sym (ap (λ n. below (λ r. get_or (map lists_of (site_plan p s).colours) r none ∷ []) n) (sym e) ∙ ones_are none (map lists_of (site_plan p s).colours))

      loop_fit : FitLines b meshes p.block (awaited_ranks b meshes s) (below (λ r. site_line_at s r ∷ []) (length meshes)) (below (λ r. colours_at s r ∷ []) (length meshes))
      loop_fit = fits_below b meshes p.block (λ r. ColoursOf s r ∷ []) (λ r. site_line_at s r ∷ []) (λ r. colours_at s r ∷ []) (length meshes)
          (λ r l. fits_line b meshes p.block (ColoursOf s r) (site_line_at s r) (colours_at s r ∷ []) (site_fit r l))

    -- where the loop runs
    site_lines_at : ℕ → List (List ℕ)
    site_lines_at s = cond (runs_free b s) (below (λ r. site_line_at s r ∷ []) (length meshes)) []

    site_colours_at : ℕ → List ColourLists
    site_colours_at s = cond (runs_free b s) (below (λ r. colours_at s r ∷ []) (length meshes)) []

    fit_by : (s : ℕ) → s < length b.sites → (t : Bool) → runs_free b s ≡ t
        → FitLines b meshes p.block (cond t (awaited_ranks b meshes s) []) (cond t (below (λ r. site_line_at s r ∷ []) (length meshes)) [])
        (cond t (below (λ r. colours_at s r ∷ []) (length meshes)) [])
    fit_by s l true e = loop_fit s l e
    fit_by s l false e = refl

    sites_fit : FitLines b meshes p.block (awaited_sites b meshes (length b.sites)) (below site_lines_at (length b.sites)) (below site_colours_at (length b.sites))
    unfolding site_lines_at site_colours_at
    sites_fit = fits_below b meshes p.block (λ s. cond (runs_free b s) (awaited_ranks b meshes s) []) site_lines_at site_colours_at (length b.sites)
        (λ s l. fit_by s l (runs_free b s) refl)

    text_by : (s : ℕ) → s < length b.sites → (t : Bool) → runs_free b s ≡ t
        → text_of_lines (cond t (loop_lines (s, site_plan p s)) []) ≡ all (cond t (below (λ r. site_line_at s r ∷ []) (length meshes)) [])
    text_by s l true e = whole_loop s l e
    text_by s l false e = refl

    sites_text : text_of_lines (flat_map loop_lines p.sites) ≡ all (below site_lines_at (length b.sites))
    unfolding site_lines_at
    sites_text =
        ap text_of_lines (sites_flat p (length b.sites) (runs_free b) loop_lines proper.sites ∙ flat_below (λ s. loop_lines (s, site_plan p s)) (runs_free b) (length b.sites))
        ∙ texts_below (λ s. cond (runs_free b s) (loop_lines (s, site_plan p s)) []) site_lines_at (length b.sites) (λ s l. text_by s l (runs_free b s) refl)

    colours_by : (s : ℕ) → s < length b.sites → (t : Bool) → runs_free b s ≡ t → cond t (by_rank s) [] ≡ cond t (below (λ r. colours_at s r ∷ []) (length meshes)) []
    colours_by s l true e = whole_colours s l e
    colours_by s l false e = refl

    sites_colours : colours_in p.sites ≡ below site_colours_at (length b.sites)
    unfolding site_colours_at by_rank
    sites_colours =
        sites_flat p (length b.sites) (runs_free b) (λ (e : ℕ × SitePlanValue). map lists_of e.1.colours) proper.sites
        ∙ (flat_below by_rank (runs_free b) (length b.sites)
        ∙ below_agree (λ s. cond (runs_free b s) (by_rank s) []) site_colours_at (length b.sites) (λ s l. colours_by s l (runs_free b s) refl))

    -- ---- the text

    module _ (few : p.block ≤ 65536) where
      sizes_at : List ℕ
      sizes_at = line_of (codes "ranks" ∷ decimal p.ranks ∷ codes "block" ∷ decimal p.block ∷ [])

      halos : List (List ℕ)
      halos = below set_lines (set_count b.mesh)

      sites : List (List ℕ)
      sites = below site_lines_at (length b.sites)

      items : List (List ℕ)
      items = below (λ i. item_line_at i ∷ []) (length b.trace)

      lines : List (List ℕ)
      lines = header_line ∷ sizes_at ∷ (halos ++ (sites ++ (items ++ done_line ∷ [])))

      text_is : plan_text b meshes p ≡ all lines
      unfolding lines sizes_at halos sites items
      text_is =
          let h : List Line = all_halo_lines b.mesh meshes (set_count b.mesh) in
          let s : List Line = flat_map loop_lines p.sites in
          let i : List Line = item_lines b.mesh 0 b.trace p.items in
          let last : List Line = (codes "done" ∷ []) ∷ [] in
          let end : text_of_lines (i ++ last) ≡ all (items ++ done_line ∷ []) =
          flat_map-append line_of i last ∙ (ap (λ z. z ++ text_of_lines last) (sym all_items_text) ∙ sym (all_append items (done_line ∷ []))) in
          let more : text_of_lines (s ++ (i ++ last)) ≡ all (sites ++ (items ++ done_line ∷ [])) =
          flat_map-append line_of s (i ++ last) ∙ (ap (λ z. z ++ text_of_lines (i ++ last)) sites_text ∙ (ap (λ z. all sites ++ z) end ∙ sym (all_append sites (items ++ done_line ∷ [])))) in
          let rest : text_of_lines (h ++ (s ++ (i ++ last))) ≡ all (halos ++ (sites ++ (items ++ done_line ∷ []))) =
          flat_map-append line_of h (s ++ (i ++ last)) ∙
          (ap (λ z. z ++ text_of_lines (s ++ (i ++ last))) (sym (halos_text (set_count b.mesh)))
          ∙ (ap (λ z. all halos ++ z) more ∙ sym (all_append halos (sites ++ (items ++ done_line ∷ []))))) in
          ap (λ z. header_line ++ (sizes_at ++ z)) (ap text_of_lines (append_assoc (h ++ s) i last ∙ append_assoc h s (i ++ last)) ∙ rest)

      lines_fit : FitLines b meshes p.block (awaited b meshes) lines (colours_in p.sites)
      unfolding lines sizes_at halos sites items
      lines_fit =
          let last : FitLines b meshes p.block (Done ∷ []) (done_line ∷ []) [] = fits_line b meshes p.block Done done_line [] (refl, refl) in
          let end = fit_append b meshes p.block (awaited_items b meshes) (Done ∷ []) items (done_line ∷ []) [] [] items_fit last in
          let more = fit_append b meshes p.block (awaited_sites b meshes (length b.sites)) (awaited_items b meshes ++ Done ∷ []) sites
          (items ++ done_line ∷ []) (below site_colours_at (length b.sites)) [] sites_fit end in
          let rest = fit_append b meshes p.block (awaited_halos b meshes)
          (awaited_sites b meshes (length b.sites) ++ (awaited_items b meshes ++ Done ∷ [])) halos (sites ++ (items ++ done_line ∷ []))
          [] (below site_colours_at (length b.sites) ++ []) halos_fit more in
          let sizes : IsSizes b meshes p.block sizes_at = record {
            some = proper.block;
            few = few;
            is = ap (λ z. line_of (codes "ranks" ∷ decimal z ∷ codes "block" ∷ decimal p.block ∷ []))
                proper.ranks;
          } in
          subst (FitLines b meshes p.block (awaited b meshes) lines) (append-nil (below site_colours_at (length b.sites)) ∙ sym sites_colours)
          ([], below site_colours_at (length b.sites) ++ [], refl, (refl, refl), ([], below site_colours_at (length b.sites) ++ [], refl, (sizes, refl), rest))

      certified : Certified b meshes (plan_text b meshes p) p
      certified = record { lines = lines; whole = text_is; fit = lines_fit; proper = proper }

pub written_are_certified : ((n : ℕ) → n < 2 ^ 64 → number_of (decimal n) ≡ Some n) → WrittenAreCertified
written_are_certified read b meshes p proper few short = certified b meshes p proper read short few
