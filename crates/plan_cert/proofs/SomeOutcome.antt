-- A text gives a plan, or a line of it is refused.
use Rattle.std.proofs.Common.{◌≡◌, ℕ, suc, ◌^◌, ◌<◌, ◌≤◌, ◌⊎◌, inl, inr, ⊎_elim, refl, sym, ap, subst, ◌∙◌, arith, List, [], ◌∷◌, ◌++◌, append_assoc, append-nil, length, get_or, true}
use Rattle.std.specs.Prelude.{Vec}
use Rattle.std.specs.declared.alloc.Global.{Global}
use Rattle.std.proofs.lemmas.Bool.{cases_eq, cases_lt}
use Rattle.mesh_decl.specs.declared.owners.Owners.{Owners}
use Rattle.mesh_decl.specs.declared.owners.Perms.{Perms}
use Rattle.mesh_decl.specs.Mesh.{set_count}
use Rattle.mesh_decl.proofs.Public.{some_in}
use Rattle.op_num.specs.Lines.{line_of}
use Rattle.local_mesh.specs.declared.types.RankMesh.{RankMesh}
use Rattle.colouring.specs.declared.types.Colours.{Colours}
use Rattle.bound_program.specs.Values.{BoundValue}
use Rattle.bound_program.specs.Fits.{Fits}
use Rattle.loop_plan.specs.Distributed.{IsDistributed}
use Rattle.loop_plan.specs.Values.{PlanValue, site_plan}
use Rattle.loop_plan.specs.Needs.{IsInRange, item_at}
use Rattle.loop_plan.specs.Pairs.{sets_of}
use Rattle.loop_plan.specs.Places.{runs_free}
use Rattle.loop_plan.specs.PlanText.{halo_line, item_line}
use Rattle.loop_plan.specs.StepCounts.{exchange_of}
use Rattle.loop_plan.specs.Proper.{Proper}
use Rattle.loop_plan.specs.SitePlans.{AreSitePlans}
use Rattle.loop_plan.specs.Laws.{PlansExist}
use Rattle.plan_cert.specs.Awaited.{Exactly, Sizes, Done, header_line, done_line, awaited_halo, awaited_set, awaited_halos, awaited_sites, awaited_item, awaited_items, places_in, ColourLists, IsSizes, FitLines}
use Rattle.plan_cert.specs.Certified.{all, colours_in, Certified, RefusedAmong, IsRefused}
use Rattle.plan_cert.specs.Laws.{SomeOutcome}
use Rattle.plan_cert.proofs.Reading.{all_append, fit_append, among_first, among_then}
use Rattle.plan_cert.proofs.Deciding.{Known, SomeBelow, Begins, both_known, below_known, begins_known, bytes_known}
use Rattle.plan_cert.proofs.OneLine.{sizes_words}
use Rattle.plan_cert.proofs.OneOutcome.{body, awaited_body}
use Rattle.plan_cert.proofs.Outcomes.{Taken, Outcome, and_then, exact_taken, all_exact}
use Rattle.plan_cert.proofs.LoopsOutcome.{OfLoops, loops_taken}
use Rattle.plan_cert.proofs.Replanned.{replanned, is_proper}

-- a vector is no longer than memory
short : (v : Vec ℕ Global) → length v.items < 2 ^ 63
short v =
    let s = v.small in
    let a = v.ok.0 in
    let c = v.ok.1 in
    omega arith

some_known : (n : ℕ) → Known (0 < n)
some_known n = ⊎_elim (λ (l : 0 < n). inl l) (λ (l : n ≤ 0). inr (λ (m : 0 < n). (let k : ⊥ = omega arith in k))) (cases_lt 0 n)

module _ (b : BoundValue) (meshes : List RankMesh) where
  -- a size whose line stands at the front
  abbrev Sized : List ℕ → ℕ → Type 0
  Sized bytes n = (0 < n) × Begins (line_of (sizes_words b meshes n)) bytes

  size_known : (many : ℕ) (bytes : List ℕ) → Known (SomeBelow many (Sized bytes))
  size_known many bytes = below_known (Sized bytes) (λ n. both_known (some_known n) (begins_known cases_eq (line_of (sizes_words b meshes n)) bytes)) many

  -- ---- the lines between the sizes and the end

  module _ (size : ℕ) (some : 0 < size) (few : (s r : ℕ) → s < length b.sites → runs_free b s ≡ true → r < length meshes → places_in b meshes s r < 2 ^ 63) where
    halos_taken : (bytes : List ℕ) → Outcome b meshes size (awaited_halos b meshes) bytes (λ cs. cs ≡ [])
    halos_taken bytes = all_exact b meshes size (awaited_set b meshes) (set_count b.mesh) (λ s rest.
        all_exact b meshes size (λ r. awaited_halo b meshes s r ∷ []) (length meshes) (λ r more.
        exact_taken b meshes size 3 (line_of (halo_line b.mesh (sets_of meshes r) s r)) more) rest) bytes

    items_taken : (bytes : List ℕ) → Outcome b meshes size (awaited_items b meshes) bytes (λ cs. cs ≡ [])
    items_taken bytes = all_exact b meshes size (λ k. awaited_item b meshes k ∷ []) (length b.trace) (λ k rest.
        exact_taken b meshes size 5 (line_of (item_line b.mesh k (item_at b k) (exchange_of b meshes k))) rest) bytes

    body_taken : (bytes : List ℕ) → Outcome b meshes size (body b meshes) bytes (OfLoops b meshes size (length b.sites))
    unfolding body
    body_taken bytes =
        let n : ℕ = length b.sites in
        let P : List ColourLists → Type 0 = OfLoops b meshes size n in
        and_then b meshes size (awaited_halos b meshes) (awaited_sites b meshes n ++ awaited_items b meshes) (λ cs. cs ≡ []) P P
        (λ cs ds e p. subst P (sym (ap (λ z. z ++ ds) e)) p) bytes (halos_taken bytes) (λ rest.
        and_then b meshes size (awaited_sites b meshes n) (awaited_items b meshes) P (λ cs. cs ≡ []) P
        (λ cs ds p e. subst P (sym (ap (λ z. cs ++ z) e ∙ append-nil cs)) p) rest (loops_taken b meshes size some few rest) items_taken)

  -- ---- outcomes

  abbrev Answer : List ℕ → Type 0
  Answer bytes = ((p : PlanValue) × Certified b meshes bytes p) ⊎ ((number : ℕ) × (line : ℕ) × IsRefused b meshes bytes number line)

  refused_by : (size number before : ℕ) (bytes : List ℕ) → RefusedAmong b meshes size (Exactly 1 header_line ∷ Sizes ∷ (body b meshes ++ Done ∷ [])) bytes number before → Answer bytes
  refused_by size number before bytes r = inr (number, suc before, (size, before, refl, subst (λ z. RefusedAmong b meshes size z bytes number before) (sym (awaited_body b meshes)) r))

  no_header : (bytes : List ℕ) → (Begins header_line bytes → ⊥) → Answer bytes
  no_header bytes h = refused_by 0 1 0 bytes (record {
    lines = [];
    rest = bytes;
    split = refl;
    earlier = [];
    here = Exactly 1 header_line;
    later = Sizes ∷ (body b meshes ++ Done ∷ []);
    order = refl;
    colours = [];
    fit = refl;
    refuses = (refl, λ more e. h (more, e));
    at = refl;
  })

  no_size : (bytes rest : List ℕ) → bytes ≡ header_line ++ rest → (SomeBelow 65537 (Sized rest) → ⊥) → Answer bytes
  no_size bytes rest e h = refused_by 0 2 1 bytes (record {
    lines = header_line ∷ [];
    rest = rest;
    split = e ∙ ap (λ z. z ++ rest) (sym (append-nil header_line));
    earlier = Exactly 1 header_line ∷ [];
    here = Sizes;
    later = body b meshes ++ Done ∷ [];
    order = refl;
    colours = [];
    fit = ([], [], refl, (refl, refl), refl);
    refuses = (refl, λ n line more s f. h (n, (let few = s.few in omega arith), (s.some, (more, f ∙ ap (λ z. z ++ more) s.is))));
    at = refl;
  })

  module _ (size : ℕ) (line bytes more : List ℕ) (e : bytes ≡ header_line ++ (line ++ more)) (sizes : IsSizes b meshes size line) where
    abbrev first : List (List ℕ)
    first = header_line ∷ line ∷ []

    behind_first : (number before : ℕ) → RefusedAmong b meshes size (body b meshes ++ Done ∷ []) more number before → Answer bytes
    behind_first number before r = refused_by size number _ bytes
        (among_then b meshes size (Exactly 1 header_line ∷ Sizes ∷ []) (body b meshes ++ Done ∷ []) first [] bytes more number before
        (e ∙ (ap (λ z. header_line ++ (z ++ more)) (sym (append-nil line)) ∙ sym (append_assoc header_line (line ++ []) more)))
        ([], [], refl, (refl, refl), ([], [], refl, (sizes, refl), refl)) r)

    not_done : (t : Taken b meshes size (body b meshes) more (OfLoops b meshes size (length b.sites))) → (t.rest ≡ done_line → ⊥) → Answer bytes
    not_done t h = behind_first 8 _
        (among_then b meshes size (body b meshes) (Done ∷ []) t.lines t.colours more t.rest 8 0 t.split t.fit (record {
          lines = [];
          rest = t.rest;
          split = refl;
          earlier = [];
          here = Done;
          later = [];
          order = refl;
          colours = [];
          fit = refl;
          refuses = (refl, h);
          at = refl;
        }))

    module _ (range : IsInRange b) (l : PlanValue) (el : l.block ≡ size) (proper : Proper b meshes l) where
      certified : (t : Taken b meshes size (body b meshes) more (OfLoops b meshes size (length b.sites))) → t.rest ≡ done_line → Answer bytes
      certified t h =
          let plans : AreSitePlans b meshes l.block (length b.sites) t.holds.entries = subst (λ z. AreSitePlans b meshes z (length b.sites) t.holds.entries) (sym el) t.holds.plans in
          let fit : FitLines b meshes size (body b meshes ++ Done ∷ []) (t.lines ++ done_line ∷ []) (t.colours ++ []) =
          fit_append b meshes size (body b meshes) (Done ∷ []) t.lines (done_line ∷ []) t.colours [] t.fit ([], [], refl, (refl, refl), refl) in
          let colours : t.colours ++ [] ≡ colours_in t.holds.entries = append-nil t.colours ∙ t.holds.are in
          let whole : more ≡ all (t.lines ++ done_line ∷ []) = t.split ∙ (ap (λ z. all t.lines ++ z) (h ∙ sym (append-nil done_line)) ∙ sym (all_append t.lines (done_line ∷ []))) in
          let lines : List (List ℕ) = header_line ∷ line ∷ (t.lines ++ done_line ∷ []) in
          let all_fit : FitLines b meshes size (Exactly 1 header_line ∷ Sizes ∷ (body b meshes ++ Done ∷ [])) lines (t.colours ++ []) =
          ([], t.colours ++ [], refl, (refl, refl), ([], t.colours ++ [], refl, (sizes, refl), fit)) in
          inl (
            replanned b meshes range l proper t.holds.entries plans,
            record {
              lines = lines;
              whole = e ∙ ap (λ z. header_line ++ (line ++ z)) whole;
              fit = subst (λ z. FitLines b meshes l.block z lines (colours_in t.holds.entries)) (sym (awaited_body b meshes))
                  (subst (λ z. FitLines b meshes z (Exactly 1 header_line ∷ Sizes ∷ (body b meshes ++ Done ∷ [])) lines (colours_in t.holds.entries)) (sym el)
                  (subst (FitLines b meshes size (Exactly 1 header_line ∷ Sizes ∷ (body b meshes ++ Done ∷ [])) lines) colours all_fit));
              proper = is_proper b meshes range l proper t.holds.entries plans;
            },
          )

      -- as many places as colours have
      few_places : (s r : ℕ) → s < length b.sites → runs_free b s ≡ true → r < length meshes → places_in b meshes s r < 2 ^ 63
      few_places s r ls run lr =
          let i = proper.loops s ls run in
          let d : Colours = some_in (site_plan l s).colours r (let c = i.colours_count in omega arith) in
          let n = (i.colours r d lr).inner_count in
          let small = short (get_or (site_plan l s).colours r d).inner in
          omega arith

      by_end : (t : Taken b meshes size (body b meshes) more (OfLoops b meshes size (length b.sites))) → Known (t.rest ≡ done_line) → Answer bytes
      by_end t (inl h) = certified t h
      by_end t (inr h) = not_done t h

      by_body : Outcome b meshes size (body b meshes) more (OfLoops b meshes size (length b.sites)) → Answer bytes
      by_body (inr r) = behind_first r.0 r.1 (among_first b meshes size (body b meshes) (Done ∷ []) more r.0 r.1 r.2)
      by_body (inl t) = by_end t (bytes_known t.rest done_line)

      behind_sizes : 0 < size → Answer bytes
      behind_sizes some = by_body (body_taken size some few_places more)

module _ (in_range : (b : BoundValue) → Fits b → IsInRange b) (exist : PlansExist) (b : BoundValue) (o : Owners) (n : Perms)
    (meshes : List RankMesh) (bytes : List ℕ) (fits : Fits b) (d : IsDistributed b.mesh o n meshes) where
  by_size : (rest : List ℕ) → bytes ≡ header_line ++ rest → Known (SomeBelow 65537 (Sized b meshes rest)) → Answer b meshes bytes
  by_size rest e (inr h) = no_size b meshes bytes rest e h
  by_size rest e (inl w) =
      let p = exist b o n meshes w.0 fits d w.2.0 in
      let line : List ℕ = line_of (sizes_words b meshes w.0) in
      behind_sizes b meshes w.0 line bytes w.2.1.0 (e ∙ ap (λ z. header_line ++ z) w.2.1.1) (record { some = w.2.0; few = (let l = w.1 in omega arith); is = refl })
      (in_range b fits) p.0 p.1 p.2 w.2.0

  by_header : Known (Begins header_line bytes) → Answer b meshes bytes
  by_header (inr h) = no_header b meshes bytes h
  by_header (inl h) = by_size h.0 h.1 (size_known b meshes 65537 h.0)

  answer : Answer b meshes bytes
  answer = by_header (begins_known cases_eq header_line bytes)

pub some_outcome : ((b : BoundValue) → Fits b → IsInRange b) → PlansExist → SomeOutcome
some_outcome in_range exist b o n meshes bytes fits d = answer in_range exist b o n meshes bytes fits d
