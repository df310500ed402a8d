-- Two plans that a text gives are alike.
use Rattle.std.proofs.Common.{◌≡◌, ℕ, ◌<◌, sym, ap, subst, ◌∙◌, arith, List, [], ◌∷◌, ◌++◌, append-nil, length, map, true, get_or}
use Rattle.std.specs.List.{flat_map}
use Rattle.std.proofs.lemmas.List.{get_or-map, length-map}
use Rattle.colouring.specs.declared.types.Colours.{Colours}
use Rattle.lemmas.specs.Below.{listed}
use Rattle.local_mesh.specs.declared.types.RankMesh.{RankMesh}
use Rattle.local_mesh.specs.Values.{rank_mesh_value}
use Rattle.bound_program.specs.Values.{BoundValue}
use Rattle.loop_plan.specs.Values.{SitePlanValue, PlanValue, site_plan}
use Rattle.loop_plan.specs.Places.{runs_free}
use Rattle.loop_plan.specs.Proper.{Proper}
use Rattle.loop_plan.specs.OnePlan.{AreAlike}
use Rattle.loop_plan.proofs.Public.{length_same}
use Rattle.plan_cert.specs.Awaited.{Exactly, Sizes, Done, awaited, header_line, ColourLists, FitLines}
use Rattle.plan_cert.specs.Certified.{all, lists_of, colours_in, Certified}
use Rattle.plan_cert.proofs.SameRanks.{awaited_same, lines_to}
use Rattle.plan_cert.proofs.OneOutcome.{body, awaited_body, one_colours, tells_one, fits_tell}
use Rattle.plan_cert.proofs.ByNumber.{Each, each_listed, each_at, sites_flat}
use Rattle.lemmas.proofs.Lists.{fronts_same}

-- lists one after another, each as long as the other, are the same
one_each : {X : Type 0} (f g : ℕ → List X) (ks : List ℕ) → Each (λ k. length (f k) ≡ length (g k)) ks → flat_map f ks ≡ flat_map g ks → Each (λ k. f k ≡ g k) ks
one_each f g [] h e = tt
one_each f g (k ∷ ks) h e =
    let o = fronts_same (f k) (g k) (flat_map f ks) (flat_map g ks) h.0 e in
    (o.0, one_each f g ks h.1 o.1)

module _ (b : BoundValue) (meshes others : List RankMesh) (bytes : List ℕ) (p q : PlanValue)
    (same : map rank_mesh_value meshes ≡ map rank_mesh_value others) (c : Certified b meshes bytes p) (d : Certified b others bytes q) where
  abbrev Lines : ℕ → List (List ℕ) → PlanValue → Type 0
  Lines size ls u = FitLines b others size (Exactly 1 header_line ∷ Sizes ∷ (body b others ++ Done ∷ [])) ls (colours_in u.sites)

  mine : Lines p.block c.lines p
  mine = subst (λ z. FitLines b others p.block z c.lines (colours_in p.sites)) (awaited_same b meshes others same ∙ awaited_body b others)
      (lines_to b meshes others same p.block (awaited b meshes) c.lines (colours_in p.sites) c.fit)

  yours : Lines q.block d.lines q
  yours = subst (λ z. FitLines b others q.block z d.lines (colours_in q.sites)) (awaited_body b others) d.fit

  -- the bytes and nothing behind them
  whole : (ls : List (List ℕ)) → bytes ≡ all ls → bytes ≡ all ls ++ []
  whole ls e = e ∙ sym (append-nil (all ls))

  one_block : p.block ≡ q.block
  one_block = tells_one b others p.block q.block bytes
      (fits_tell b others p.block (body b others ++ Done ∷ []) c.lines [] bytes (colours_in p.sites) mine (whole c.lines c.whole))
      (fits_tell b others q.block (body b others ++ Done ∷ []) d.lines [] bytes (colours_in q.sites) yours (whole d.lines d.whole))

  all_colours : colours_in p.sites ≡ colours_in q.sites
  all_colours =
      (one_colours b others q.block (Exactly 1 header_line ∷ Sizes ∷ (body b others ++ Done ∷ [])) c.lines d.lines [] [] (colours_in p.sites) (colours_in q.sites)
      (subst (λ z. Lines z c.lines p) one_block mine) yours (sym (whole c.lines c.whole) ∙ whole d.lines d.whole)).0

  -- the colours of a loop, by rank
  abbrev by_rank : PlanValue → ℕ → List ColourLists
  by_rank u s = map lists_of (site_plan u s).colours

  by_loop : (u : PlanValue) (ms : List RankMesh) → Proper b ms u → colours_in u.sites ≡ flat_map (by_rank u) (listed (length b.sites) (runs_free b))
  by_loop u ms h = sites_flat u (length b.sites) (runs_free b) (λ (e : ℕ × SitePlanValue). map lists_of e.1.colours) h.sites

  long : (u : PlanValue) (ms : List RankMesh) → Proper b ms u → (s : ℕ) → s < length b.sites → runs_free b s ≡ true → length (by_rank u s) ≡ length ms
  long u ms h s l run = length-map (site_plan u s).colours lists_of ∙ (h.loops s l run).colours_count

  each_same : Each (λ s. by_rank p s ≡ by_rank q s) (listed (length b.sites) (runs_free b))
  each_same = one_each (by_rank p) (by_rank q) (listed (length b.sites) (runs_free b))
      (each_listed (λ s. length (by_rank p s) ≡ length (by_rank q s)) (length b.sites) (runs_free b)
      (λ s l run. long p meshes c.proper s l run ∙ (length_same meshes others same ∙ sym (long q others d.proper s l run))))
      (sym (by_loop p meshes c.proper) ∙ (all_colours ∙ by_loop q others d.proper))

  at_rank : (s r : ℕ) (x y : Colours) → s < length b.sites → runs_free b s ≡ true → r < length meshes → lists_of (get_or (site_plan p s).colours r x) ≡ lists_of (get_or (site_plan q s).colours r y)
  at_rank s r x y l run lr =
      let m = (c.proper.loops s l run).colours_count in
      let n = (d.proper.loops s l run).colours_count in
      let e = length_same meshes others same in
      sym (get_or-map lists_of (site_plan p s).colours r x (lists_of x) (omega arith))
      ∙ (ap (λ z. get_or z r (lists_of x)) (each_at (λ s. by_rank p s ≡ by_rank q s) (length b.sites) (runs_free b) each_same s l run)
      ∙ get_or-map lists_of (site_plan q s).colours r y (lists_of x) (omega arith))

  alike : AreAlike b meshes others p q
  alike = record {
    alike = same;
    block = one_block;
    proper = c.proper;
    other_proper = d.proper;
    colours = λ s r x y l run lr. (ap (λ (z : ColourLists). z.blocks) (at_rank s r x y l run lr), ap (λ (z : ColourLists). z.inner) (at_rank s r x y l run lr));
  }

pub plans_are_alike : (b : BoundValue) (meshes others : List RankMesh) (bytes : List ℕ) (p q : PlanValue)
    → map rank_mesh_value meshes ≡ map rank_mesh_value others → Certified b meshes bytes p → Certified b others bytes q
    → AreAlike b meshes others p q
plans_are_alike b meshes others bytes p q same c d = alike b meshes others bytes p q same c d
