-- A text has one line that is refused first, and none where it gives a plan.
use Rattle.std.proofs.Common.{◌≡◌, ℕ, zero, suc, ◌⊎◌, inl, inr, refl, sym, ap, subst, ◌∙◌, List, [], ◌∷◌, ◌++◌, append_assoc, append-nil, length, map, cond, Bool, true, false}
use Rattle.std.proofs.lemmas.List.{append_cancel_left}
use Rattle.mesh_decl.specs.Mesh.{set_count}
use Rattle.local_mesh.specs.declared.types.RankMesh.{RankMesh}
use Rattle.local_mesh.specs.Values.{rank_mesh_value}
use Rattle.bound_program.specs.Values.{BoundValue}
use Rattle.loop_plan.specs.Values.{PlanValue}
use Rattle.loop_plan.specs.Places.{runs_free}
use Rattle.plan_cert.specs.Awaited.{Awaited, Exactly, Sizes, ColoursOf, Done, each_below, awaited_halo, awaited_set, awaited_halos, awaited_ranks, awaited_sites, awaited_item, awaited_items, awaited, header_line, ColourLists, IsSizes, FitsLine, FitLines}
use Rattle.plan_cert.specs.Certified.{all, colours_in, Certified, Refuses, RefusedAmong, IsRefused}
use Rattle.lemmas.proofs.Lists.{head_same, tail_same}
use Rattle.plan_cert.proofs.SameRanks.{awaited_same, lines_to, refused_to}
use Rattle.plan_cert.proofs.OneLine.{IsEarly, one_size, one_fit, not_both, one_number}

-- ---- the end is the last line

-- each line is an early one
abbrev pub AreEarly : List Awaited → Type 0
AreEarly [] = Unit {0}
AreEarly (x ∷ xs) = IsEarly x × AreEarly xs

-- those before the last are
abbrev pub Ends : List Awaited → Type 0
Ends [] = Unit {0}
Ends (x ∷ []) = Unit {0}
Ends (x ∷ y ∷ ys) = IsEarly x × Ends (y ∷ ys)

early_append : (xs ys : List Awaited) → AreEarly xs → AreEarly ys → AreEarly (xs ++ ys)
early_append [] ys h k = k
early_append (x ∷ xs) ys h k = (h.0, early_append xs ys h.1 k)

early_below : (f : ℕ → List Awaited) → ((k : ℕ) → AreEarly (f k)) → (n : ℕ) → AreEarly (each_below f n)
early_below f h zero = tt
early_below f h (suc n) = early_append (each_below f n) (f n) (early_below f h n) (h n)

ends_early : (xs : List Awaited) (x : Awaited) → AreEarly xs → Ends (xs ++ x ∷ [])
ends_early [] x h = tt
ends_early (y ∷ []) x h = (h.0, tt)
ends_early (y ∷ z ∷ zs) x h = (h.0, ends_early (z ∷ zs) x h.1)

early_if : (t : Bool) (xs : List Awaited) → AreEarly xs → AreEarly (cond t xs [])
early_if true xs h = h
early_if false xs h = tt

module _ (b : BoundValue) (meshes : List RankMesh) where
  -- the lines between the sizes and the end
  unfoldable pub body : List Awaited
  body = awaited_halos b meshes ++ (awaited_sites b meshes (length b.sites) ++ awaited_items b meshes)

  body_early : AreEarly body
  unfolding body
  body_early =
      let n : ℕ = length b.sites in
      let halos : AreEarly (awaited_halos b meshes) = early_below (awaited_set b meshes) (λ s. early_below (λ r. awaited_halo b meshes s r ∷ []) (λ r. (tt, tt)) (length meshes)) (set_count b.mesh) in
      let sites : AreEarly (awaited_sites b meshes n) = early_below (λ s. cond (runs_free b s) (awaited_ranks b meshes s) [])
      (λ s. early_if (runs_free b s) (awaited_ranks b meshes s) (early_below (λ r. ColoursOf s r ∷ []) (λ r. (tt, tt)) (length meshes)))
      n in
      let items : AreEarly (awaited_items b meshes) = early_below (λ k. awaited_item b meshes k ∷ []) (λ k. (tt, tt)) (length b.trace) in
      early_append (awaited_halos b meshes) (awaited_sites b meshes n ++ awaited_items b meshes) halos (early_append (awaited_sites b meshes n) (awaited_items b meshes) sites items)

  pub awaited_body : awaited b meshes ≡ Exactly 1 header_line ∷ Sizes ∷ (body ++ Done ∷ [])
  unfolding body
  awaited_body =
      let n : ℕ = length b.sites in
      ap (λ z. Exactly 1 header_line ∷ Sizes ∷ z)
      (ap (λ z. awaited_halos b meshes ++ z) (sym (append_assoc (awaited_sites b meshes n) (awaited_items b meshes) (Done ∷ [])))
      ∙ sym (append_assoc (awaited_halos b meshes) (awaited_sites b meshes n ++ awaited_items b meshes) (Done ∷ [])))

  pub awaited_ends : Ends (awaited b meshes)
  awaited_ends = subst Ends (sym awaited_body) (ends_early (Exactly 1 header_line ∷ Sizes ∷ body) Done (tt, (tt, body_early)))

early_first : (x : Awaited) (e : List Awaited) (h : Awaited) (t : List Awaited) → Ends (x ∷ (e ++ h ∷ t)) → IsEarly x × Ends (e ++ h ∷ t)
early_first x [] h t k = k
early_first x (y ∷ ys) h t k = k

module _ (b : BoundValue) (meshes : List RankMesh) (size : ℕ) where
  abbrev Fit : List Awaited → List (List ℕ) → List ColourLists → Type 0
  Fit xs ls cs = FitLines b meshes size xs ls cs

  abbrev Ref : Awaited → List ℕ → ℕ → Type 0
  Ref x rest n = Refuses b meshes size x rest n

  -- ---- one refusal

  one_by : (e f : List Awaited) (h k : Awaited) (t u : List Awaited) (ls ms : List (List ℕ)) (rest more : List ℕ) (cs ds : List ColourLists) (m n : ℕ)
      → Ends (e ++ h ∷ t) → e ++ h ∷ t ≡ f ++ k ∷ u → Fit e ls cs → Fit f ms ds → all ls ++ rest ≡ all ms ++ more → Ref h rest m → Ref k more n → (m ≡ n) × (length ls ≡ length ms)
  one_by [] [] h k t u [] [] rest more cs ds m n ends order a c e x y =
      let same : h ≡ k = head_same h k t u order in
      (one_number b meshes size k more m n (subst (λ z. Ref k z m) e (subst (λ z. Ref z rest m) same x)) y, refl)
  one_by [] [] h k t u [] (l ∷ ls) rest more cs ds m n ends order a c e x y = absurd c
  one_by [] [] h k t u (l ∷ ls) ms rest more cs ds m n ends order a c e x y = absurd a
  one_by [] (z ∷ f) h k t u (l ∷ ls) ms rest more cs ds m n ends order a c e x y = absurd a
  one_by [] (z ∷ f) h k t u [] [] rest more cs ds m n ends order a c e x y = absurd c
  one_by [] (z ∷ f) h k t u [] (l ∷ ls) rest more cs ds m n ends order a c e x y =
      let same : h ≡ z = head_same h z t (f ++ k ∷ u) order in
      let early : IsEarly z = (early_first z f k u (subst Ends order ends)).0 in
      absurd (not_both b meshes size z l rest (all ls ++ more) c.0 m (inl early) c.3 (e ∙ append_assoc l (all ls) more) (subst (λ w. Ref w rest m) same x))
  one_by (z ∷ e) [] h k t u ls (l ∷ ms) rest more cs ds m n ends order a c q x y = absurd c
  one_by (z ∷ e) [] h k t u [] [] rest more cs ds m n ends order a c q x y = absurd a
  one_by (z ∷ e) [] h k t u (l ∷ ls) [] rest more cs ds m n ends order a c q x y =
      let same : k ≡ z = sym (head_same z k (e ++ h ∷ t) u order) in
      let early : IsEarly z = (early_first z e h t ends).0 in
      absurd (not_both b meshes size z l more (all ls ++ rest) a.0 n (inl early) a.3 (sym q ∙ append_assoc l (all ls) rest) (subst (λ w. Ref w more n) same y))
  one_by (z ∷ e) (w ∷ f) h k t u [] ms rest more cs ds m n ends order a c q x y = absurd a
  one_by (z ∷ e) (w ∷ f) h k t u (l ∷ ls) [] rest more cs ds m n ends order a c q x y = absurd c
  one_by (z ∷ e) (w ∷ f) h k t u (l ∷ ls) (j ∷ ms) rest more cs ds m n ends order a c q x y =
      let same : z ≡ w = head_same z w (e ++ h ∷ t) (f ++ k ∷ u) order in
      let fit : FitsLine b meshes size w l a.0 = subst (λ v. FitsLine b meshes size v l a.0) same a.3 in
      let o = one_fit b meshes size w l j (all ls ++ rest) (all ms ++ more) a.0 c.0 fit c.3 (sym (append_assoc l (all ls) rest) ∙ (q ∙ append_assoc j (all ms) more)) in
      let r = one_by e f h k t u ls ms rest more a.1 c.1 m n (early_first z e h t ends).1 (tail_same z w (e ++ h ∷ t) (f ++ k ∷ u) order) a.4 c.4 o.1 x y in
      (r.0, ap suc r.1)

  -- ---- none is refused

  none_by : (e : List Awaited) (h : Awaited) (t : List Awaited) (ls ms : List (List ℕ)) (rest : List ℕ) (cs ds : List ColourLists) (n : ℕ)
      → Ends (e ++ h ∷ t) → Fit (e ++ h ∷ t) ls cs → Fit e ms ds → all ls ≡ all ms ++ rest → Ref h rest n → ⊥
  none_by [] h t [] ms rest cs ds n ends a c q x = a
  none_by [] h t ls (j ∷ ms) rest cs ds n ends a c q x = c
  none_by [] h [] (l ∷ []) [] rest cs ds n ends a c q x = not_both b meshes size h l rest [] a.0 n (inr refl) a.3 (sym q) x
  none_by [] h [] (l ∷ k ∷ ls) [] rest cs ds n ends a c q x = a.4
  none_by [] h (y ∷ t) (l ∷ ls) [] rest cs ds n ends a c q x = not_both b meshes size h l rest (all ls) a.0 n (inl ends.0) a.3 (sym q) x
  none_by (z ∷ e) h t [] ms rest cs ds n ends a c q x = a
  none_by (z ∷ e) h t (l ∷ ls) [] rest cs ds n ends a c q x = c
  none_by (z ∷ e) h t (l ∷ ls) (j ∷ ms) rest cs ds n ends a c q x =
      let o = one_fit b meshes size z l j (all ls) (all ms ++ rest) a.0 c.0 a.3 c.3 (q ∙ append_assoc j (all ms) rest) in
      none_by e h t ls ms rest a.1 c.1 n (early_first z e h t ends).1 a.4 c.4 o.1 x

  -- ---- one plan

  -- the colours of lines that fit are one
  pub one_colours : (xs : List Awaited) (ls ms : List (List ℕ)) (rest more : List ℕ) (cs ds : List ColourLists) → Fit xs ls cs
      → Fit xs ms ds → all ls ++ rest ≡ all ms ++ more → (cs ≡ ds) × (rest ≡ more)
  one_colours [] [] [] rest more cs ds a c e = (a ∙ sym c, e)
  one_colours [] [] (j ∷ ms) rest more cs ds a c e = absurd c
  one_colours [] (l ∷ ls) ms rest more cs ds a c e = absurd a
  one_colours (x ∷ xs) [] ms rest more cs ds a c e = absurd a
  one_colours (x ∷ xs) (l ∷ ls) [] rest more cs ds a c e = absurd c
  one_colours (x ∷ xs) (l ∷ ls) (j ∷ ms) rest more cs ds a c e =
      let o = one_fit b meshes size x l j (all ls ++ rest) (all ms ++ more) a.0 c.0 a.3 c.3 (sym (append_assoc l (all ls) rest) ∙ (e ∙ append_assoc j (all ms) more)) in
      let r = one_colours xs ls ms rest more a.1 c.1 a.4 c.4 o.1 in
      (a.2 ∙ (ap (λ z. z ++ a.1) o.0 ∙ ap (λ z. c.0 ++ z) r.0) ∙ sym c.2, r.1)

-- ---- sizes

-- the second line tells this size
pub record Tells (b : BoundValue) (meshes : List RankMesh) (size : ℕ) (bytes : List ℕ) : Type 0 where
  pub line : List ℕ
  pub more : List ℕ
  pub is : bytes ≡ header_line ++ (line ++ more)
  pub sizes : IsSizes b meshes size line

module _ (b : BoundValue) (meshes : List RankMesh) where
  pub tells_one : (m n : ℕ) (bytes : List ℕ) → Tells b meshes m bytes → Tells b meshes n bytes → m ≡ n
  tells_one m n bytes s t = (one_size b meshes m n s.line t.line s.more t.more s.sizes t.sizes (append_cancel_left header_line (s.line ++ s.more) (t.line ++ t.more) (sym s.is ∙ t.is))).0

  pub fits_tell : (size : ℕ) (xs : List Awaited) (ls : List (List ℕ)) (rest bytes : List ℕ) (cs : List ColourLists)
      → FitLines b meshes size (Exactly 1 header_line ∷ Sizes ∷ xs) ls cs → bytes ≡ all ls ++ rest → Tells b meshes size bytes
  fits_tell size xs [] rest bytes cs f e = absurd f
  fits_tell size xs (l ∷ []) rest bytes cs f e = absurd f.4
  fits_tell size xs (l ∷ k ∷ ls) rest bytes cs f e = record {
    line = k;
    more = all ls ++ rest;
    is = e ∙ (append_assoc l (k ++ all ls) rest ∙ (ap (λ z. z ++ ((k ++ all ls) ++ rest)) f.3.0 ∙ ap (λ z. header_line ++ z) (append_assoc k (all ls) rest)));
    sizes = f.4.3.0;
  }

  -- a refusal of one of the first two lines is one at any size
  sized_by : (m n : ℕ) (bytes : List ℕ) (number before : ℕ) (ys : List Awaited) (e : List Awaited) (h : Awaited) (t : List Awaited) (ls : List (List ℕ)) (rest : List ℕ) (cs : List ColourLists)
      → Exactly 1 header_line ∷ Sizes ∷ ys ≡ e ++ h ∷ t → FitLines b meshes m e ls cs → bytes ≡ all ls ++ rest → Refuses b meshes m h rest number → before ≡ length ls
      → Tells b meshes m bytes ⊎ RefusedAmong b meshes n (Exactly 1 header_line ∷ Sizes ∷ ys) bytes number before
  sized_by m n bytes number before ys [] h t (l ∷ ls) rest cs o f e x a = absurd f
  sized_by m n bytes number before ys [] h t [] rest cs o f e x a =
      let same : Exactly 1 header_line ≡ h = head_same (Exactly 1 header_line) h (Sizes ∷ ys) t o in
      let k : Refuses b meshes m (Exactly 1 header_line) rest number = subst (λ z. Refuses b meshes m z rest number) (sym same) x in
      inr (record { lines = []; rest = rest; split = e; earlier = []; here = Exactly 1 header_line; later = Sizes ∷ ys; order = refl; colours = []; fit = refl; refuses = k; at = a })
  sized_by m n bytes number before ys (z ∷ []) h t [] rest cs o f e x a = absurd f
  sized_by m n bytes number before ys (z ∷ []) h t (l ∷ j ∷ ls) rest cs o f e x a = absurd f.4
  sized_by m n bytes number before ys (z ∷ []) h t (l ∷ []) rest cs o f e x a =
      let first : Exactly 1 header_line ≡ z = head_same (Exactly 1 header_line) z (Sizes ∷ ys) (h ∷ t) o in
      let tail : Sizes ∷ ys ≡ h ∷ t = tail_same (Exactly 1 header_line) z (Sizes ∷ ys) (h ∷ t) o in
      let same : Sizes ≡ h = head_same Sizes h ys t tail in
      let k : Refuses b meshes m Sizes rest number = subst (λ z. Refuses b meshes m z rest number) (sym same) x in
      let fit : FitsLine b meshes m (Exactly 1 header_line) l f.0 = subst (λ z. FitsLine b meshes m z l f.0) (sym first) f.3 in
      inr (record {
        lines = l ∷ [];
        rest = rest;
        split = e;
        earlier = Exactly 1 header_line ∷ [];
        here = Sizes;
        later = ys;
        order = refl;
        colours = f.0 ++ [];
        fit = (f.0, [], refl, fit, refl);
        refuses = k;
        at = a;
      })
  sized_by m n bytes number before ys (z ∷ w ∷ v) h t ls rest cs o f e x a =
      let first : Exactly 1 header_line ≡ z = head_same (Exactly 1 header_line) z (Sizes ∷ ys) (w ∷ (v ++ h ∷ t)) o in
      let tail : Sizes ∷ ys ≡ w ∷ (v ++ h ∷ t) = tail_same (Exactly 1 header_line) z (Sizes ∷ ys) (w ∷ (v ++ h ∷ t)) o in
      let second : Sizes ≡ w = head_same Sizes w ys (v ++ h ∷ t) tail in
      inl (fits_tell m v ls rest bytes cs (subst (λ u. FitLines b meshes m (u ∷ Sizes ∷ v) ls cs) (sym first) (subst (λ u. FitLines b meshes m (z ∷ u ∷ v) ls cs) (sym second) f)) e)

  sized : (m n : ℕ) (bytes : List ℕ) (number before : ℕ) (ys : List Awaited) → RefusedAmong b meshes m (Exactly 1 header_line ∷ Sizes ∷ ys) bytes number before
      → Tells b meshes m bytes ⊎ RefusedAmong b meshes n (Exactly 1 header_line ∷ Sizes ∷ ys) bytes number before
  sized m n bytes number before ys r = sized_by m n bytes number before ys r.earlier r.here r.later r.lines r.rest r.colours r.order r.fit r.split r.refuses r.at

  -- ---- answers

  abbrev Among : ℕ → List ℕ → ℕ → ℕ → Type 0
  Among size bytes number before = RefusedAmong b meshes size (Exactly 1 header_line ∷ Sizes ∷ (body b meshes ++ Done ∷ [])) bytes number before

  ends : Ends (Exactly 1 header_line ∷ Sizes ∷ (body b meshes ++ Done ∷ []))
  ends = subst Ends (awaited_body b meshes) (awaited_ends b meshes)

  at_one_size : (size : ℕ) (bytes : List ℕ) (m n k l : ℕ) → Among size bytes m k → Among size bytes n l → (m ≡ n) × (k ≡ l)
  at_one_size size bytes m n k l r s =
      let o = one_by b meshes size r.earlier s.earlier r.here s.here r.later s.later r.lines s.lines r.rest s.rest r.colours s.colours m n
      (subst Ends r.order ends) (sym r.order ∙ s.order) r.fit s.fit (sym r.split ∙ s.split) r.refuses s.refuses in
      (o.0, r.at ∙ (o.1 ∙ sym s.at))

  pub one_among : (i j : ℕ) (bytes : List ℕ) (m n k l : ℕ) → Among i bytes m k → Among j bytes n l → (m ≡ n) × (k ≡ l)
  one_among i j bytes m n k l r s = by_sizes (sized i j bytes m k (body b meshes ++ Done ∷ []) r) (sized j i bytes n l (body b meshes ++ Done ∷ []) s)
    where
      by_sizes : Tells b meshes i bytes ⊎ Among j bytes m k → Tells b meshes j bytes ⊎ Among i bytes n l → (m ≡ n) × (k ≡ l)
      by_sizes (inr x) y = at_one_size j bytes m n k l x s
      by_sizes (inl x) (inr y) = at_one_size i bytes m n k l r y
      by_sizes (inl x) (inl y) = at_one_size j bytes m n k l (subst (λ z. Among z bytes m k) (tells_one i j bytes x y) r) s

  pub none_among : (i j : ℕ) (bytes : List ℕ) (n k : ℕ) (ls : List (List ℕ)) (cs : List ColourLists)
      → FitLines b meshes i (Exactly 1 header_line ∷ Sizes ∷ (body b meshes ++ Done ∷ [])) ls cs → bytes ≡ all ls → Among j bytes n k → ⊥
  none_among i j bytes n k ls cs f e r = by_sizes (sized j i bytes n k (body b meshes ++ Done ∷ []) r)
    where
      at_size : Among i bytes n k → ⊥
      at_size s = none_by b meshes i s.earlier s.here s.later ls s.lines s.rest cs s.colours n (subst Ends s.order ends)
          (subst (λ z. FitLines b meshes i z ls cs) s.order f) s.fit (sym e ∙ s.split) s.refuses

      by_sizes : Tells b meshes j bytes ⊎ Among i bytes n k → ⊥
      by_sizes (inr x) = at_size x
      by_sizes (inl x) = at_size (subst (λ z. Among z bytes n k) (tells_one j i bytes x (fits_tell i (body b meshes ++ Done ∷ []) ls [] bytes cs f (e ∙ sym (append-nil (all ls))))) r)

pub one_refusal : (b : BoundValue) (meshes others : List RankMesh) (bytes : List ℕ) (number other line later : ℕ)
    → map rank_mesh_value meshes ≡ map rank_mesh_value others → IsRefused b meshes bytes number line → IsRefused b others bytes other later
    → (number ≡ other) × (line ≡ later)
one_refusal b meshes others bytes number other line later same r s =
    let k = refused_to b meshes others bytes number line same r in
    let e = awaited_body b others in
    let o = one_among b others k.0 s.0 bytes number other k.1 s.1 (subst (λ z. RefusedAmong b others k.0 z bytes number k.1) e k.3) (subst (λ z. RefusedAmong b others s.0 z bytes other s.1) e s.3) in
    (o.0, k.2 ∙ (ap suc o.1 ∙ sym s.2))

pub none_is_refused : (b : BoundValue) (meshes others : List RankMesh) (bytes : List ℕ) (p : PlanValue) (number line : ℕ)
    → map rank_mesh_value meshes ≡ map rank_mesh_value others → Certified b meshes bytes p → IsRefused b others bytes number line → ⊥
none_is_refused b meshes others bytes p number line same c r =
    let e = awaited_body b others in
    let fit = lines_to b meshes others same p.block (awaited b meshes) c.lines (colours_in p.sites) c.fit in
    none_among b others p.block r.0 bytes number r.1 c.lines (colours_in p.sites)
    (subst (λ z. FitLines b others p.block z c.lines (colours_in p.sites)) (awaited_same b meshes others same ∙ e) fit) c.whole
    (subst (λ z. RefusedAmong b others r.0 z bytes number r.1) e r.3)
