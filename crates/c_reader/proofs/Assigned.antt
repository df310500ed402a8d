-- Assignments are read exactly as they are printed.
use Rattle.std.proofs.Common.{◌≡◌, ℕ, suc, ◌+◌, ◌≤◌, Bool, true, false, cond, List, [], ◌∷◌, ◌++◌, length, Option, Some, None, Result, Ok, Err, refl, sym, ap, subst, ◌∙◌, arith, slice_get, nat_lt}
use Rattle.c_tree.specs.declared.lexer.tokens.Kind.{Kind}
use Rattle.c_tree.specs.declared.lexer.tokens.Kind.TheVariants as kind
use Rattle.c_tree.specs.declared.lexer.tokens.Sign.TheVariants as sg
use Rattle.c_tree.specs.declared.expressions.Ident.{Ident}
use Rattle.c_tree.specs.declared.declarations.AssignOp.{AssignOp}
use Rattle.c_tree.specs.declared.declarations.AssignOp.TheVariants as assign
use Rattle.c_tree.specs.Signs.{assign_sign_of}
use Rattle.c_tree.specs.Tree.{ExprTree, PlaceTree, Scalar, Element, Target, AssignmentTree}
use Rattle.c_tree.specs.Print.{sign_at as sign_mark, ident as ident_mark, expr, place, assignment}
use Rattle.c_tree.specs.Grouped.{IsGrouped, IsPlace, IsAssignment}
use Rattle.c_tree.specs.Reads.{first_deep}
use Rattle.c_reader.specs.declared.faults.Fault.{Fault}
use Rattle.c_reader.specs.declared.faults.Fault.TheVariants.{TooDeep}
use Rattle.c_reader.specs.Descent.{◌>>=◌, sign_is, sign_at, read}
use Rattle.c_reader.specs.Rows.{made, ident}
use Rattle.c_reader.specs.Declarations.{named_place, place_at, assignment_row, assigned, assignment_at}
use Rattle.c_reader.proofs.Spans.{Spans, spans_end, spans_split, spans_join, deep_over, deep_closed, after}
use Rattle.c_reader.proofs.Steps.{sign_at_is, sign_at_ok, sign_found}
use Rattle.c_reader.proofs.Complete.{Closes, right_bracket, level_fits}
use Rattle.c_reader.proofs.Sound.{bind_ok, ok_one}
use Rattle.c_reader.proofs.Far.{far_bind, sign_far}
use Rattle.c_reader.proofs.Exactness.{Exact, Found, Free, ident_is, ident_ok, ident_near, both_exact, turned_exact, sign_exact, expr_exact}
use Rattle.c_reader.proofs.Marks.{assign_exact, made_complete, made_sound, made_far}
use Rattle.c_reader.proofs.CallRows.{then_exact, needy_then}

pub semicolon : Closes sg.Semicolon
semicolon = record { operator = refl; question = refl; bracket = refl }

-- no `[` stands there
abbrev pub NoBracket : List Kind → ℕ → Type 0
NoBracket ks n = sign_is sg.LeftBracket (slice_get ks n) ≡ false

pub place_scalar : (ks : List Kind) (d : ℕ) (x : Ident) (n : ℕ) → slice_get ks n ≡ Some (kind.Name x.name) → ident ks n ≡ Ok (x, suc n) → NoBracket ks (suc n) → place_at ks d n ≡ Ok (Scalar x, suc n)
unfolding place_at
place_scalar ks d x n s h b = rw (s, h, b) refl

pub place_element : (ks : List Kind) (d : ℕ) (x : Ident) (n j : ℕ) (i : ExprTree) (o : Option ℕ) → slice_get ks n ≡ Some (kind.Name x.name)
    → ident ks n ≡ Ok (x, suc n) → slice_get ks (suc n) ≡ Some (kind.Sign sg.LeftBracket) → read ks d 0 (suc (suc n)) ≡ after o (Ok (i, j))
    → slice_get ks j ≡ Some (kind.Sign sg.RightBracket) → place_at ks d n ≡ after o (Ok (Element x i, suc j))
unfolding place_at
place_element ks d x n j i None s h b r t = rw (s, h, b, r, sign_at_is ks sg.RightBracket j t) refl
place_element ks d x n j i (Some p) s h b r t = rw (s, h, b, r) refl

pub place_target : (ks : List Kind) (d : ℕ) (x : Ident) (n : ℕ) → slice_get ks n ≡ Some (kind.Sign sg.Star) → ident ks (suc n) ≡ Ok (x, suc (suc n)) → place_at ks d n ≡ Ok (Target n x, suc (suc n))
unfolding place_at
place_target ks d x n s h = rw (s, h) refl

module _ (ks : List Kind) (f k d : ℕ) (room : suc k + d ≡ 65) (before : k ≤ f + 1) where
  low : nat_lt 64 k ≡ false
  low = level_fits k d (omega arith)

  scalar_deep : (x : Ident) (n : ℕ) → first_deep n (place k (Scalar x)) ≡ None
  scalar_deep x n = rw low refl

  target_deep : (at : ℕ) (x : Ident) (n : ℕ) → first_deep n (place k (Target at x)) ≡ None
  target_deep at x n = rw low refl

  place_complete : (x : PlaceTree) (n e : ℕ) → IsPlace x → Spans ks n (place k x) e → NoBracket ks e → place_at ks d n ≡ after (first_deep n (place k x)) (Ok (x, e))
  place_complete (Scalar x) n e o s h =
      place_scalar ks d x n s.0 (ident_is ks x n s.0 s.1) (subst (NoBracket ks) (sym s.2) h) ∙ ap (λ (z : ℕ). Ok (Scalar x, z)) s.2 ∙ ap (λ z. after z (Ok (Scalar x, e))) (sym (scalar_deep x n))
  place_complete (Element x i) n e o s h =
      let r = spans_split ks (suc (suc n)) (expr (suc k) i) (sign_mark k sg.RightBracket ∷ []) e s.2.2 in
      let inner = (expr_exact ks k k d room (omega arith)).complete i (suc (suc n)) r.0 o r.1 (sg.RightBracket, right_bracket, r.2.0) in
      place_element ks d x n r.0 i (first_deep (suc (suc n)) (expr (suc k) i)) s.0 (ident_is ks x n s.0 s.1) s.2.0 inner r.2.0
      ∙ ap (λ (z : ℕ). after (first_deep (suc (suc n)) (expr (suc k) i)) (Ok (Element x i, z))) r.2.2
      ∙ ap (λ z. after z (Ok (Element x i, e)))
      (sym (deep_over n (ident_mark k x) (sign_mark k sg.LeftBracket ∷ (expr (suc k) i ++ sign_mark k sg.RightBracket ∷ [])) low
      ∙ deep_over (suc n) (sign_mark k sg.LeftBracket) (expr (suc k) i ++ sign_mark k sg.RightBracket ∷ []) low
      ∙ deep_closed ks (suc (suc n)) (expr (suc k) i) (sign_mark k sg.RightBracket) r.0 r.1 low))
  place_complete (Target at x) n e o s h =
      place_target ks d x n s.0 (ident_is ks x (suc n) s.2.0 s.2.1) ∙ ap (λ (z : ℕ). Ok (Target z x, suc (suc n))) (sym s.1)
      ∙ ap (λ (z : ℕ). Ok (Target at x, z)) s.2.2 ∙ ap (λ z. after z (Ok (Target at x, e))) (sym (target_deep at x n))

  named_sound : (x : Ident) (n j : ℕ) (y : PlaceTree × ℕ) → slice_get ks n ≡ Some (kind.Name x.name) → x.at ≡ n → suc n ≡ j → named_place ks d x j ≡ Ok y → Found ks IsPlace (place k) Free n y.0 y.1
  named_sound x n j y s a i h = by_test (sign_is sg.LeftBracket (slice_get ks j)) refl h
    where
      by_test : (t : Bool) → sign_is sg.LeftBracket (slice_get ks j) ≡ t
          → cond t (read ks d 0 (suc j) >>= λ v. sign_at ks sg.RightBracket v.1 >>= λ e. Ok (Element x v.0, e)) (Ok (Scalar x, j)) ≡ Ok y
          → Found ks IsPlace (place k) Free n y.0 y.1
      by_test true t h =
          let v = bind_ok (read ks d 0 (suc j)) _ y h in
          let b = bind_ok (sign_at ks sg.RightBracket v.0.1) _ y v.2 in
          let r = (expr_exact ks k k d room (omega arith)).sound (suc j) v.0 v.1 in
          let g = sign_at_ok ks sg.RightBracket v.0.1 b.0 b.1 in
          let bracket : slice_get ks (suc n) ≡ Some (kind.Sign sg.LeftBracket) = ap (slice_get ks) i ∙ sign_found sg.LeftBracket (slice_get ks j) t in
          let at : suc (suc n) ≡ suc j = ap suc i in
          let inner : Spans ks (suc (suc n)) (expr (suc k) v.0.0) v.0.1 = subst (λ z. Spans ks z (expr (suc k) v.0.0) v.0.1) (sym at) r.spans in
          let deep : first_deep (suc (suc n)) (expr (suc k) v.0.0) ≡ None = ap (λ z. first_deep z (expr (suc k) v.0.0)) at ∙ r.shallow in
          let made_ : Found ks IsPlace (place k) Free n (Element x v.0.0) b.0 = record {
            valid = r.valid;
            spans = (s, a, (bracket, tt, spans_join ks (suc (suc n)) (expr (suc k) v.0.0) (sign_mark k sg.RightBracket ∷ []) v.0.1 b.0 inner (g.0, tt, sym g.1)));
            shallow = deep_over n (ident_mark k x) (sign_mark k sg.LeftBracket ∷ (expr (suc k) v.0.0 ++ sign_mark k sg.RightBracket ∷ []))
                low ∙ deep_over (suc n) (sign_mark k sg.LeftBracket) (expr (suc k) v.0.0 ++ sign_mark k sg.RightBracket ∷ []) low
                ∙ deep_closed ks (suc (suc n)) (expr (suc k) v.0.0) (sign_mark k sg.RightBracket) v.0.1 inner low ∙ deep;
            behind = tt;
          } in
          subst (λ (w : PlaceTree × ℕ). Found ks IsPlace (place k) Free n w.0 w.1) (ok_one (Element x v.0.0, b.0) y b.2) made_
      by_test false t h =
          let made_ : Found ks IsPlace (place k) Free n (Scalar x) j = record { valid = tt; spans = (s, a, i); shallow = scalar_deep x n; behind = tt } in
          subst (λ (w : PlaceTree × ℕ). Found ks IsPlace (place k) Free n w.0 w.1) (ok_one (Scalar x, j) y h) made_

  place_sound : (n : ℕ) (y : PlaceTree × ℕ) → place_at ks d n ≡ Ok y → Found ks IsPlace (place k) Free n y.0 y.1
  unfolding place_at
  place_sound n y h = by_test (sign_is sg.Star (slice_get ks n)) refl h
    where
      by_test : (t : Bool) → sign_is sg.Star (slice_get ks n) ≡ t
          → cond t (ident ks (suc n) >>= λ x. Ok (Target n x.0, x.1)) (ident ks n >>= λ x. named_place ks d x.0 x.1) ≡ Ok y
          → Found ks IsPlace (place k) Free n y.0 y.1
      by_test true t h =
          let x = bind_ok (ident ks (suc n)) _ y h in
          let q = ident_ok ks (suc n) x.0 x.1 in
          let made_ : Found ks IsPlace (place k) Free n (Target n x.0.0) x.0.1 = record {
            valid = tt;
            spans = (sign_found sg.Star (slice_get ks n) t, refl, (q.0, q.1, q.2));
            shallow = target_deep n x.0.0 n;
            behind = tt;
          } in
          subst (λ (w : PlaceTree × ℕ). Found ks IsPlace (place k) Free n w.0 w.1) (ok_one (Target n x.0.0, x.0.1) y x.2) made_
      by_test false t h =
          let x = bind_ok (ident ks n) _ y h in
          let q = ident_ok ks n x.0 x.1 in
          named_sound x.0.0 n x.0.1 y q.0 q.1 q.2 x.2

  named_far : (x : Ident) (j q : ℕ) → f + 1 ≤ j → named_place ks d x j ≡ Err (TooDeep q) → 64 ≤ q
  named_far x j q l h = by_test (sign_is sg.LeftBracket (slice_get ks j)) h
    where
      by_test : (t : Bool) → ◌≡◌ {A = Result (PlaceTree × ℕ) Fault}
          (cond t (read ks d 0 (suc j) >>= λ v. sign_at ks sg.RightBracket v.1 >>= λ e. Ok (Element x v.0, e)) (Ok (Scalar x, j)))
          (Err (TooDeep q)) → 64 ≤ q
      by_test true h =
          far_bind (read ks d 0 (suc j)) _ q h ((expr_exact ks k k d room (omega arith)).far (suc j) q (omega arith))
          (λ v r g. far_bind (sign_at ks sg.RightBracket v.1) _ q g (sign_far ks sg.RightBracket v.1 q) (λ e r g. cc))
      by_test false h = cc

  place_far : (n q : ℕ) → f ≤ n → place_at ks d n ≡ Err (TooDeep q) → 64 ≤ q
  unfolding place_at
  place_far n q l h = by_test (sign_is sg.Star (slice_get ks n)) h
    where
      by_test : (t : Bool) → ◌≡◌ {A = Result (PlaceTree × ℕ) Fault}
          (cond t (ident ks (suc n) >>= λ x. Ok (Target n x.0, x.1)) (ident ks n >>= λ x. named_place ks d x.0 x.1)) (Err (TooDeep q))
          → 64 ≤ q
      by_test true h = far_bind (ident ks (suc n)) _ q h (λ g. absurd (ident_near ks (suc n) q g)) (λ x r g. cc)
      by_test false h =
          far_bind (ident ks n) _ q h (λ g. absurd (ident_near ks n q g)) (λ x r g. (let i = ident_ok ks n x r in named_far x.0 x.1 q (omega (arith, i.2)) g))

  place_some : (x : PlaceTree) → 1 ≤ length (place k x)
  place_some (Scalar x) = omega arith
  place_some (Element x i) = omega arith
  place_some (Target at x) = omega arith

  place_exact : Exact ks f 1 IsPlace (place k) (λ x e. NoBracket ks e) Free (place_at ks d)
  place_exact = record {
    complete = place_complete;
    sound = place_sound;
    moves = λ n y h. (let r = place_sound n y h in omega (arith, spans_end ks n (place k y.0) y.1 r.spans, place_some y.0));
    far = place_far;
  }

  assign_bracket : (op : AssignOp) (n : ℕ) → slice_get ks n ≡ Some (kind.Sign (assign_sign_of op)) → NoBracket ks n
  assign_bracket op n h = rw h (none op)
    where
      none : (op : AssignOp) → sign_is sg.LeftBracket (Some (kind.Sign (assign_sign_of op))) ≡ false
      none assign.Set = refl
      none _ = refl

  row_exact : Exact ks f 4 (λ v. IsPlace v.0 × IsGrouped v.1.1.0) (λ v. assignment k (assigned v)) Free Free (assignment_row ks d)
  row_exact =
      turned_exact ks f (omega arith) (λ v o. (o.0, o.1)) (λ v o. (o.0, o.1)) (λ v e h. h) (λ v e h. h)
      (both_exact ks f 1 _ _ _ _ _ _ _ _ _ _ _ place_exact
      (then_exact ks {from' = f + 1} (omega arith) (assign_exact ks (f + 1) k low)
      (needy_then ks (omega arith) (expr_exact ks (f + 1) k d room before) (sign_exact ks (f + 1) k sg.Semicolon low)
      (λ a b j e s. (sg.Semicolon, semicolon, s.0)))) (λ a b j e o s. assign_bracket b.0.0 j s.0))

  assignment_is : (n : ℕ) → assignment_at ks d n ≡ made assigned (assignment_row ks d) n
  unfolding assignment_at
  assignment_is n = refl

  pub assignment_complete : (a : AssignmentTree) (n e : ℕ) → IsAssignment a → Spans ks n (assignment k a) e → assignment_at ks d n ≡ after (first_deep n (assignment k a)) (Ok (a, e))
  assignment_complete a n e o s =
      assignment_is n ∙ made_complete assigned (assignment_row ks d) n e (a.place, ((a.op, a.at), (a.value, tt)))
      (first_deep n (assignment k a)) (row_exact.complete (a.place, ((a.op, a.at), (a.value, tt))) n e (o.0, o.1) s tt)

  pub assignment_sound : (n : ℕ) (y : AssignmentTree × ℕ) → assignment_at ks d n ≡ Ok y → Found ks IsAssignment (assignment k) Free n y.0 y.1
  assignment_sound n y h =
      let r = made_sound ks assigned row_exact n y (sym (assignment_is n) ∙ h) in
      subst (λ z. Found ks IsAssignment (assignment k) Free n z y.1) r.1 (record { valid = (r.2.valid.0, r.2.valid.1); spans = r.2.spans; shallow = r.2.shallow; behind = tt })

  pub assignment_far : (n q : ℕ) → f ≤ n → assignment_at ks d n ≡ Err (TooDeep q) → 64 ≤ q
  assignment_far n q l h = made_far ks assigned row_exact n q l (sym (assignment_is n) ∙ h)
