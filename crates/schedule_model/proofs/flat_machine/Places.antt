-- An accepted list by places is one by elements.
use Rattle.std.proofs.Common.{◌≡◌, ℕ, ◌<◌, true, refl, sym, ap, subst, ◌∙◌, arith, ⊎_elim, List, [], ◌∷◌, ◌++◌, map, append_assoc}
use Rattle.std.specs.Prelude.{◌&&◌, nat_lt}
use Rattle.std.proofs.lemmas.Bool.{false≢true, false_from_ne_true, or_cases, or_left, or_right, and_parts, and_from, ltb-true, lt-ltb}
use Rattle.schedule_steps.specs.Outline.{by_colour}
use Rattle.schedule_steps.specs.declared.step.Step.{Step}
use Rattle.schedule_steps.specs.declared.step.Step.TheVariants.{Send, Recv, Begin, End, Join}
use Rattle.schedule_steps.specs.Steps.{item, IsOf, IsStep, Earlier, by_item, sent, sent_first, received, begun, coloured, same, has, Accepted}
use Rattle.schedule_steps.specs.Members.{same_true, same_refl, has_at}
use Rattle.schedule_model.specs.Program.{Free, elements}
use Rattle.schedule_model.specs.Setup.{Setup, executes, outline}
use Rattle.schedule_model.specs.Layout.{Layout, IsLayout, by_place}
use Rattle.schedule_model.specs.Tests.{free_kind}

abbrev pub to_element : {F : Type 0} → Layout F → Step → Step
to_element l (Send k s r) = Send k s r
to_element l (Recv k r s) = Recv k r s
to_element l (Begin k r x) = Begin k r (l.original k r x)
to_element l (End k r x) = End k r (l.original k r x)
to_element l (Join k) = Join k

abbrev to_place : {F : Type 0} → Layout F → Step → Step
to_place l (Send k s r) = Send k s r
to_place l (Recv k r s) = Recv k r s
to_place l (Begin k r e) = Begin k r (l.local k r e)
to_place l (End k r e) = End k r (l.local k r e)
to_place l (Join k) = Join k

has_map : (f : Step → Step) (l : List Step) (t : Step) → has l t ≡ true → has (map f l) (f t) ≡ true
has_map f [] t h = absurd (false≢true h)
has_map f (s ∷ l) t h = ⊎_elim
    (λ (e : same t s ≡ true). or_left (same (f t) (f s)) (has (map f l) (f t)) (subst (λ z. same (f t) (f z) ≡ true) (same_true t s e) (same_refl (f t))))
    (λ (e : has l t ≡ true). or_right (same (f t) (f s)) (has (map f l) (f t)) (has_map f l t e))
    (or_cases (same t s) (has l t) h)

-- who stands behind a step of the mapped list
has_back : (f : Step → Step) (l : List Step) (u : Step) → has (map f l) u ≡ true → (t : Step) × (x : List Step) × (y : List Step) × (l ≡ x ++ (t ∷ y)) × (u ≡ f t)
has_back f [] u h = absurd (false≢true h)
has_back f (s ∷ l) u h = ⊎_elim
    (λ (e : same u (f s) ≡ true). (s, [], l, refl, same_true u (f s) e))
    (λ (e : has (map f l) u ≡ true). let r : (t : Step) × (x : List Step) × (y : List Step) × (l ≡ x ++ (t ∷ y)) × (u ≡ f t) = has_back f l u e in (r.0, s ∷ r.1, r.2, ap (λ z. s ∷ z) r.3, r.4))
    (or_cases (same u (f s)) (has (map f l) u) h)

split_map : (f : Step → Step) (l pre : List Step) (s : Step) (post : List Step) → map f l ≡ pre ++ (s ∷ post) → (x : List Step) × (t : Step)
    × (y : List Step) × (l ≡ x ++ (t ∷ y)) × (pre ≡ map f x) × (s ≡ f t) × (post ≡ map f y)
split_map f [] [] s post h = cc
split_map f [] (u ∷ pre) s post h = cc
split_map f (t ∷ l) [] s post h = ([], t, l, refl, refl, (let e : f t ≡ s = cc in sym e), (let e : map f l ≡ post = cc in sym e))
split_map f (t ∷ l) (u ∷ pre) s post h =
    let e : f t ≡ u = cc in
    let r : (x : List Step) × (t : Step) × (y : List Step) × (l ≡ x ++ (t ∷ y)) × (pre ≡ map f x) × (s ≡ f t) × (post ≡ map f y) = split_map f l pre s post (cc) in
    (t ∷ r.0, r.1, r.2, ap (λ z. t ∷ z) r.3, ap (λ z. u ∷ z) r.4 ∙ ap (λ z. z ∷ map f r.0) (sym e), r.5, r.6)

module _ {F : Type 0} (p : Setup F) (l : Layout F) (q : IsLayout p l) where
  -- the element of a place
  pub place_runs : (k r x : ℕ) → p.program.kind k ≡ Free → r < p.ranks → (nat_lt x (l.count k r) && true) ≡ true → (x < l.count k r)
      × (l.original k r x < elements p.program k) × (executes p k r (l.original k r x) ≡ true) × (l.local k r (l.original k r x) ≡ x)
  place_runs k r x fr lr h =
      let lt : x < l.count k r = ltb-true x (l.count k r) (and_parts (nat_lt x (l.count k r)) true h).0 in
      let o : (l.original k r x < elements p.program k) × (executes p k r (l.original k r x) ≡ true) × (l.local k r (l.original k r x) ≡ x) = q.outside k r x fr lr lt in (lt, o.0, o.1, o.2)

  run_place : (k r x : ℕ) → p.program.kind k ≡ Free → r < p.ranks → (nat_lt x (l.count k r) && true) ≡ true
      → (nat_lt (l.original k r x) (elements p.program k) && executes p k r (l.original k r x)) ≡ true
  run_place k r x fr lr h =
      let i : (x < l.count k r) × (l.original k r x < elements p.program k) × (executes p k r (l.original k r x) ≡ true) × (l.local k r (l.original k r x) ≡ x) = place_runs k r x fr lr h in
      and_from (nat_lt (l.original k r x) (elements p.program k)) (executes p k r (l.original k r x)) (lt-ltb (l.original k r x) (elements p.program k) i.1) i.2

  element_runs : (k r e : ℕ) → p.program.kind k ≡ Free → r < p.ranks → (nat_lt e (elements p.program k) && executes p k r e) ≡ true
      → ((nat_lt (l.local k r e) (l.count k r) && true) ≡ true) × (l.original k r (l.local k r e) ≡ e)
  element_runs k r e fr lr h =
      let a : (nat_lt e (elements p.program k) ≡ true) × (executes p k r e ≡ true) = and_parts (nat_lt e (elements p.program k)) (executes p k r e) h in
      let i : (l.local k r e < l.count k r) × (l.original k r (l.local k r e) ≡ e) = q.inside k r e fr lr (ltb-true e (elements p.program k) a.0) a.1 in
      (and_from (nat_lt (l.local k r e) (l.count k r)) true (lt-ltb (l.local k r e) (l.count k r) i.0) refl, i.1)

  element_step : (s : Step) → IsStep (by_place p l) s → IsStep (outline p) (to_element l s)
  element_step (Send k s r) h = h
  element_step (Recv k r s) h = h
  element_step (Begin k r x) h = (h.0, h.1, h.2, run_place k r x (free_kind (p.program.kind k) h.1) h.2 h.3)
  element_step (End k r x) h = (h.0, h.1, h.2, run_place k r x (free_kind (p.program.kind k) h.1) h.2 h.3)
  element_step (Join k) h = h

  place_step : (s : Step) → IsStep (outline p) s → IsStep (by_place p l) (to_place l s) × (to_element l (to_place l s) ≡ s)
  place_step (Send k s r) h = (h, refl)
  place_step (Recv k r s) h = (h, refl)
  place_step (Begin k r e) h = let i : ((nat_lt (l.local k r e) (l.count k r) && true) ≡ true) × (l.original k r (l.local k r e) ≡ e) =
      element_runs k r e (free_kind (p.program.kind k) h.1) h.2 h.3 in ((h.0, h.1, h.2, i.0), ap (Begin k r) i.1)
  place_step (End k r e) h = let i : ((nat_lt (l.local k r e) (l.count k r) && true) ≡ true) × (l.original k r (l.local k r e) ≡ e) =
      element_runs k r e (free_kind (p.program.kind k) h.1) h.2 h.3 in ((h.0, h.1, h.2, i.0), ap (End k r) i.1)
  place_step (Join k) h = (h, refl)

  back : (s : Step) → IsStep (by_place p l) s → to_place l (to_element l s) ≡ s
  back (Send k s r) h = refl
  back (Recv k r s) h = refl
  back (Begin k r x) h = ap (Begin k r) (place_runs k r x (free_kind (p.program.kind k) h.1) h.2 h.3).3
  back (End k r x) h = ap (End k r) (place_runs k r x (free_kind (p.program.kind k) h.1) h.2 h.3).3
  back (Join k) h = refl

  of_place : (s : Step) (r : ℕ) → IsOf s r → IsOf (to_place l s) r
  of_place (Send k s r) x h = h
  of_place (Recv k r s) x h = h
  of_place (Begin k r e) x h = h
  of_place (End k r e) x h = h
  of_place (Join k) x h = h

  item_place : (s : Step) → item (to_place l s) ≡ item s
  item_place (Send k s r) = refl
  item_place (Recv k r s) = refl
  item_place (Begin k r e) = refl
  item_place (End k r e) = refl
  item_place (Join k) = refl

  -- a place has its element's colour
  colour_place : (k r e f : ℕ) → l.original k r (l.local k r e) ≡ e → l.original k r (l.local k r f) ≡ f
      → by_colour (outline p) k r e f ≡ true → by_colour (by_place p l) k r (l.local k r e) (l.local k r f) ≡ true
  colour_place k r e f i j h = ap (λ z. by_colour (outline p) k r z (l.original k r (l.local k r f))) i ∙ (ap (by_colour (outline p) k r e) j ∙ h)

  earlier_place : (t s : Step) → Earlier (outline p) t s → IsStep (outline p) t → IsStep (outline p) s → Earlier (by_place p l) (to_place l t) (to_place l s)
  earlier_place t s (by_item r a b lt) pt ps = by_item r (of_place t r a) (of_place s r b)
      (let i : item (to_place l t) ≡ item t = item_place t in let j : item (to_place l s) ≡ item s = item_place s in omega arith)
  earlier_place _ _ sent pt ps = sent
  earlier_place _ _ sent_first pt ps = sent_first
  earlier_place _ _ (received {k} {r} {s} {e} h) pt ps = received (ap (p.core r (p.program.set k)) (element_runs k r e (free_kind (p.program.kind k) ps.1) ps.2 ps.3).1 ∙ h)
  earlier_place _ _ begun pt ps = begun
  earlier_place _ _ (coloured {k} {r} {e} {f} h) pt ps =
      coloured (colour_place k r e f (element_runs k r e (free_kind (p.program.kind k) pt.1) pt.2 pt.3).1
      (element_runs k r f (free_kind (p.program.kind k) ps.1) ps.2 ps.3).1 h)

  -- a step of the mapped list
  abbrev Behind : List Step → List Step → Step → List Step → Type 0
  Behind steps pre s post = (x : List Step) × (t : Step) × (y : List Step) × (steps ≡ x ++ (t ∷ y)) × (pre ≡ map (to_element l) x) × (s ≡ to_element l t) × (post ≡ map (to_element l) y)

  pub accepted_elements : (steps : List Step) → Accepted (by_place p l) steps → Accepted (outline p) (map (to_element l) steps)
  accepted_elements steps acc = record {
    whole = λ s plan. let i : IsStep (by_place p l) (to_place l s) × (to_element l (to_place l s) ≡ s) = place_step s plan in
        subst (λ z. has (map (to_element l) steps) z ≡ true) i.1 (has_map (to_element l) steps (to_place l s) (acc.whole (to_place l s) i.0));
    steps = λ pre s post e. let i : Behind steps pre s post = split_map (to_element l) steps pre s post e in
        subst (IsStep (outline p)) (sym i.5) (element_step i.1 (acc.steps i.0 i.1 i.2 i.3));
    once = λ pre s post e. let i : Behind steps pre s post = split_map (to_element l) steps pre s post e in
        false_from_ne_true (has pre s) (λ h. twice i.0 i.1 i.2 i.3 (subst (λ z. has (map (to_element l) i.0) z ≡ true) i.5 (subst (λ z. has z s ≡ true) i.4 h)));
    order = λ pre s post e t plan early. let i : Behind steps pre s post = split_map (to_element l) steps pre s post e in
        let planned : IsStep (by_place p l) i.1 = acc.steps i.0 i.1 i.2 i.3 in
        let j : IsStep (by_place p l) (to_place l t) × (to_element l (to_place l t) ≡ t) = place_step t plan in
        let before : Earlier (by_place p l) (to_place l t) (to_place l s) = earlier_place t s early plan (subst (IsStep (outline p)) (sym i.5) (element_step i.1 planned)) in
        let there : has i.0 (to_place l t) ≡ true = acc.order i.0 i.1 i.2 i.3 (to_place l t) j.0 (subst (Earlier (by_place p l) (to_place l t)) (ap (to_place l) i.5 ∙ back i.1 planned) before) in
        subst (λ z. has z t ≡ true) (sym i.4) (subst (λ z. has (map (to_element l) i.0) z ≡ true) j.1 (has_map (to_element l) i.0 (to_place l t) there));
  }
    where
      twice : (x : List Step) (t : Step) (y : List Step) → steps ≡ x ++ (t ∷ y) → has (map (to_element l) x) (to_element l t) ≡ true → ⊥
      twice x t y e h =
          let b : (u : Step) × (v : List Step) × (w : List Step) × (x ≡ v ++ (u ∷ w)) × (to_element l t ≡ to_element l u) = has_back (to_element l) x (to_element l t) h in
          let first : IsStep (by_place p l) b.0 = acc.steps b.1 b.0 (b.2 ++ (t ∷ y)) (e ∙ (ap (λ z. z ++ (t ∷ y)) b.3 ∙ append_assoc b.1 (b.0 ∷ b.2) (t ∷ y))) in
          let i : t ≡ b.0 = sym (back t (acc.steps x t y e)) ∙ (ap (to_place l) b.4 ∙ back b.0 first) in
          false≢true (sym (acc.once x t y e) ∙ (ap (λ z. has x z) i ∙ (ap (λ z. has z b.0) b.3 ∙ has_at b.1 b.0 b.2)))
