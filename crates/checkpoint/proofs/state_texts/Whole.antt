-- A whole text from its parts, and a file from its text.
use Rattle.std.proofs.Common.{◌≡◌, ℕ, ℤ, suc, ◌+◌, ◌≤◌, sym, ap, subst, ◌∙◌, arith, List, [], ◌∷◌, ◌++◌, append-nil, length, length-append, inr, Result, Ok, Err, IfErr}
use Rattle.std.specs.Result.{IsErrAnd}
use Rattle.op_num.specs.CutLines.{Unread, unread}
use Rattle.bound_program.specs.Values.{BoundValue}
use Rattle.checkpoint.specs.Cut.{StateValue, CanCut, HasShape, starts}
use Rattle.checkpoint.specs.declared.state_texts.refusals.StateRefusal.{StateRefusal}
use Rattle.checkpoint.specs.declared.state_texts.refusals.StateRefusal.TheVariants as refusal
use Rattle.checkpoint.specs.Reading.{Awaited, Item, Done, awaited_vars, awaited_dats, awaited, all, lines_in, IsSplit, AllFit, RefusedAmong, Says, SaysNone, Refused}
use Rattle.checkpoint.specs.Judged.{FitsAmong, RefusedAt, RefusesAmong, TextSays, TextSaysNone, behind, line_in}
use Rattle.checkpoint.proofs.state_texts.Judging.{refused_map, fits_append, refused_first, refused_then}
use Rattle.checkpoint.proofs.state_texts.OneLine.{fit_long}
use Rattle.checkpoint.proofs.state_texts.VarLines.{flat}

-- ---- the text

module _ (b : BoundValue) where
  abbrev pub vars : List Awaited
  vars = awaited_vars 0 (starts b.vars)

  abbrev pub dats : List Awaited
  dats = awaited_dats b.mesh

  module _ (text : List ℕ) (u : Unread) (begun : u ≡ unread text) where
    -- a refusal of one of its lines
    text_refused : (k : ℕ) (e : StateRefusal) → RefusesAmong b k (awaited b) u e → Refused (TextSaysNone b text) e
    text_refused k e h = refused_map e (RefusedAt b k (awaited b) u) (TextSaysNone b text) (λ n l r. (
      k,
      r.0,
      (let t : u.taken ≡ 0 = ap (λ (v : Unread). v.taken) begun in let at = r.1 in omega arith),
      subst (λ (v : Unread). RefusedAmong b k (awaited b) v.rest n r.0) begun r.2,
    )) h

    passed : {X : Type 0} (k : ℕ) (r : Result X StateRefusal) (e : StateRefusal) → IsErrAnd r (λ x. x ≡ e) → RefusesAmong b k (awaited b) u e → IfErr r (Refused (TextSaysNone b text))
    passed k (Ok x) e h g = absurd h
    passed k (Err x) e h g = subst (Refused (TextSaysNone b text)) (sym h) (text_refused k e g)

    pub item_passed : {X : Type 0} (k : ℕ) (r : Result X StateRefusal) (e : StateRefusal) → IsErrAnd r (λ x. x ≡ e) → RefusesAmong b k (Item ∷ []) u e → IfErr r (Refused (TextSaysNone b text))
    item_passed k r e h g = passed k r e h (refused_first b k (Item ∷ []) (vars ++ (dats ++ Done ∷ [])) u e g)

    module _ (k : ℕ) (v : Unread) (f : FitsAmong b k (Item ∷ []) u v []) where
      pub vars_passed : {X : Type 0} (r : Result X StateRefusal) (e : StateRefusal) → IsErrAnd r (λ x. x ≡ e) → RefusesAmong b k vars v e → IfErr r (Refused (TextSaysNone b text))
      vars_passed r e h g = passed k r e h
          (refused_then b k (Item ∷ []) (vars ++ (dats ++ Done ∷ [])) u v [] e f (refused_first b k vars (dats ++ Done ∷ []) v e g))

      module _ (w : Unread) (zs : List (List ℤ)) (g : FitsAmong b k vars v w (flat zs)) where
        pub dats_passed : {X : Type 0} (r : Result X StateRefusal) (e : StateRefusal) → IsErrAnd r (λ x. x ≡ e) → RefusesAmong b k dats w e → IfErr r (Refused (TextSaysNone b text))
        dats_passed r e h i = passed k r e h
            (refused_then b k (Item ∷ []) (vars ++ (dats ++ Done ∷ [])) u v [] e f
            (refused_then b k vars (dats ++ Done ∷ []) v w (flat zs) e g (refused_first b k dats (Done ∷ []) w e i)))

        module _ (x : Unread) (ys : List (List ℤ)) (d : FitsAmong b k dats w x (flat ys)) where
          pub end_passed : {X : Type 0} (r : Result X StateRefusal) (e : StateRefusal) → IsErrAnd r (λ x. x ≡ e) → RefusesAmong b k (Done ∷ []) x e → IfErr r (Refused (TextSaysNone b text))
          end_passed r e h i = passed k r e h
              (refused_then b k (Item ∷ []) (vars ++ (dats ++ Done ∷ [])) u v [] e f
              (refused_then b k vars (dats ++ Done ∷ []) v w (flat zs) e g (refused_then b k dats (Done ∷ []) w x (flat ys) e d i)))

          -- all its lines fit
          pub text_says : (y : Unread) → FitsAmong b k (Done ∷ []) x y [] → y.rest ≡ [] → HasShape b (record { item = k; vars = zs; dats = ys })
              → TextSays b text (record { item = k; vars = zs; dats = ys })
          text_says y l none shape =
              let a : FitsAmong b k (awaited b) u y (flat zs ++ (flat ys ++ [])) =
              fits_append b k (Item ∷ []) (vars ++ (dats ++ Done ∷ [])) u v y [] (flat zs ++ (flat ys ++ [])) f
              (fits_append b k vars (dats ++ Done ∷ []) v w y (flat zs) (flat ys ++ []) g (fits_append b k dats (Done ∷ []) w x y (flat ys) [] d l)) in
              record {
                lines = a.lines;
                whole = sym (ap (λ (z : Unread). z.rest) begun) ∙ (a.split ∙ (ap (λ (z : List ℕ). all a.lines ++ z) none ∙ append-nil (all a.lines)));
                fit = subst (λ (z : List ℤ). AllFit b k (awaited b) a.lines (flat zs ++ z)) (append-nil (flat ys)) a.fit;
                shape = shape;
              }

-- ---- the file

module _ (b : BoundValue) where
  -- the cut that its first line names
  item_cut : (k : ℕ) (ls : List (List ℕ)) (zs : List ℤ) → AllFit b k (awaited b) ls zs → CanCut b k
  item_cut k [] zs f = absurd f
  item_cut k (l ∷ ls) zs f = f.3.0.can_cut

  module _ (bytes front text : List ℕ) (split : IsSplit bytes front text) where
    pub file_says : (s : StateValue) → TextSays b text s → Says b bytes s
    file_says s t = record {
      before = front;
      lines = t.lines;
      split = subst (IsSplit bytes front) t.whole split;
      fit = t.fit;
      shape = t.shape;
      can_cut = item_cut s.item t.lines (flat s.vars ++ flat s.dats) t.fit;
    }

    pub none_at : (n : ℕ) → n ≡ lines_in front + 2 → (number line : ℕ) → TextSaysNone b text number line → SaysNone b bytes number (line + n)
    none_at n e number line h = inr (record {
      front = front;
      text = text;
      split = split;
      item = h.0;
      before = h.1;
      among = h.3;
      at = (let l = h.2 in let g : line + n ≡ lines_in front + (h.1 + 3) = omega arith in g);
    })

    pub file_says_none : (n : ℕ) (e : StateRefusal) → n ≡ lines_in front + 2 → Refused (TextSaysNone b text) e → Refused (SaysNone b bytes) (behind n e)
    file_says_none n (refusal.Header line) l h = none_at n l 1 line h
    file_says_none n (refusal.Item line) l h = none_at n l 2 line h
    file_says_none n (refusal.Shape line) l h = none_at n l 3 line h
    file_says_none n (refusal.Value line) l h = none_at n l 4 line h
    file_says_none n (refusal.End line) l h = none_at n l 5 line h
    file_says_none n refusal.OutOfMemory l h = tt

  -- a text has fewer lines than bytes, or as many
  line_small : (text : List ℕ) (number line : ℕ) → TextSaysNone b text number line → line ≤ suc (length text)
  line_small text number line h =
      let r = h.3 in
      let few = fit_long b h.0 r.earlier r.lines r.values r.fit in
      let long : length text ≡ length (all r.lines) + length r.rest = ap length r.cut ∙ length-append (all r.lines) r.rest in
      let at = r.at in
      let is = h.2 in
      omega arith

  pub refused_small : (text : List ℕ) (e : StateRefusal) → Refused (TextSaysNone b text) e → line_in e ≤ suc (length text)
  refused_small text (refusal.Header line) h = line_small text 1 line h
  refused_small text (refusal.Item line) h = line_small text 2 line h
  refused_small text (refusal.Shape line) h = line_small text 3 line h
  refused_small text (refusal.Value line) h = line_small text 4 line h
  refused_small text (refusal.End line) h = line_small text 5 line h
  refused_small text refusal.OutOfMemory h = omega arith
