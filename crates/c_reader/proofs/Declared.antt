-- Declarations and assignments are read exactly as they are printed.
use Rattle.std.proofs.Common.{◌≡◌, ◌≢◌, ℕ, suc, ◌+◌, ◌≤◌, Bool, true, false, cond, List, [], ◌∷◌, ◌++◌, length, Option, Some, None, Result, Ok, Err, refl, sym, ap, subst, ◌∙◌, arith, slice_get, nat_lt, length-append, zero-le, ◌⊎◌, inl, inr}
use Rattle.c_tree.specs.declared.lexer.tokens.Kind.{Kind}
use Rattle.c_tree.specs.declared.lexer.tokens.Kind.TheVariants as kind
use Rattle.c_tree.specs.declared.lexer.tokens.Sign.TheVariants as sg
use Rattle.c_tree.specs.declared.lexer.tokens.Word.TheVariants as wd
use Rattle.c_tree.specs.declared.expressions.Ident.{Ident}
use Rattle.c_tree.specs.declared.expressions.NumberLiteral.{NumberLiteral}
use Rattle.c_tree.specs.Tree.{ExprTree, DeclrTree, Plain, Init, Array, DeclarationTree}
use Rattle.c_tree.specs.Print.{Mark, sign_at as sign_mark, named_sign, named_word, word_if, ident as ident_mark, figure, expr, commas, declr, declrs, vars, place, assignment}
use Rattle.c_tree.specs.Grouped.{IsDeclr, AreDeclrs, IsDeclaration}
use Rattle.c_tree.specs.Reads.{first_deep}
use Rattle.c_reader.specs.declared.faults.Fault.{Fault}
use Rattle.c_reader.specs.declared.faults.Fault.TheVariants.{TooDeep}
use Rattle.c_reader.specs.Descent.{◌>>=◌, sign_is, sign_at, read}
use Rattle.c_reader.specs.Rows.{word_is, word_at, ident, number, separated}
use Rattle.c_reader.specs.Declarations.{unset, declr_at, declaration_behind, declaration_at}
use Rattle.c_reader.proofs.Spans.{Spans, spans_end, spans_within, deep_over, after}
use Rattle.c_reader.proofs.Steps.{sign_at_is, sign_at_ok, sign_found}
use Rattle.c_reader.proofs.Complete.{comma, level_fits}
use Rattle.c_reader.proofs.Sound.{bind_ok, ok_one}
use Rattle.c_reader.proofs.Far.{far_bind, sign_far}
use Rattle.c_reader.proofs.Exactness.{Exact, Found, Free, ClosedAt, mark_shallow, word_found, word_at_is, word_at_ok, word_far, ident_is, ident_ok, ident_near, number_is, number_ok, number_near, expr_exact}
use Rattle.c_reader.proofs.Lists.{AllValid}
use Rattle.c_reader.proofs.Separated.{each, row, Separated, separated_complete, separated_sound, separated_far}
use Rattle.c_reader.proofs.Assigned.{semicolon}

-- a declaration from its `int` on
abbrev pub tail_of : ℕ → DeclarationTree → List Mark
tail_of k v = named_word k wd.Int v.at ∷ (commas k (declrs k v.declrs) ++ sign_mark k sg.Semicolon ∷ [])

-- `,` or `;` stands there
abbrev pub SepAt : List Kind → ℕ → Type 0
SepAt ks n = (slice_get ks n ≡ Some (kind.Sign sg.Comma)) ⊎ (slice_get ks n ≡ Some (kind.Sign sg.Semicolon))

sep_closed : (ks : List Kind) (n : ℕ) → SepAt ks n → ClosedAt ks n
sep_closed ks n (inl h) = (sg.Comma, comma, h)
sep_closed ks n (inr h) = (sg.Semicolon, semicolon, h)

sep_assign : (ks : List Kind) (n : ℕ) → SepAt ks n → sign_is sg.Assign (slice_get ks n) ≡ false
sep_assign ks n (inl h) = rw h refl
sep_assign ks n (inr h) = rw h refl

sep_bracket : (ks : List Kind) (n : ℕ) → SepAt ks n → sign_is sg.LeftBracket (slice_get ks n) ≡ false
sep_bracket ks n (inl h) = rw h refl
sep_bracket ks n (inr h) = rw h refl

declr_plain : (ks : List Kind) (d : ℕ) (x : Ident) (n : ℕ) → ident ks n ≡ Ok (x, suc n) → sign_is sg.Assign (slice_get ks (suc n)) ≡ false
    → sign_is sg.LeftBracket (slice_get ks (suc n)) ≡ false → declr_at ks d false n ≡ Ok (Plain x, suc n)
unfolding declr_at
declr_plain ks d x n h a b = rw (h, a, b) refl

declr_init : (ks : List Kind) (d : ℕ) (c : Bool) (x : Ident) (n e : ℕ) (v : ExprTree) (o : Option ℕ) → ident ks n ≡ Ok (x, suc n)
    → slice_get ks (suc n) ≡ Some (kind.Sign sg.Assign) → read ks d 0 (suc (suc n)) ≡ after o (Ok (v, e))
    → declr_at ks d c n ≡ after o (Ok (Init x v, e))
unfolding declr_at
declr_init ks d c x n e v None h a r = rw (h, a, r) refl
declr_init ks d c x n e v (Some p) h a r = rw (h, a, r) refl

declr_array : (ks : List Kind) (d : ℕ) (x : Ident) (n : ℕ) (v : NumberLiteral) → ident ks n ≡ Ok (x, suc n)
    → slice_get ks (suc n) ≡ Some (kind.Sign sg.LeftBracket) → number ks (suc (suc n)) ≡ Ok (v, suc (suc (suc n)))
    → sign_at ks sg.RightBracket (suc (suc (suc n))) ≡ Ok (suc (suc (suc (suc n))))
    → declr_at ks d false n ≡ Ok (Array x v, suc (suc (suc (suc n))))
unfolding declr_at
declr_array ks d x n v h a r b = rw (h, a, r, b) refl

-- A declared variable of a declaration at level k, with d levels left below it and at least f tokens before it.
module _ (ks : List Kind) (f k d : ℕ) (room : suc k + d ≡ 65) (before : k ≤ f + 1) (c : Bool) where
  fits : nat_lt 64 k ≡ false
  fits = level_fits k d (omega arith)

  array_deep : (x : Ident) (m : NumberLiteral) (n : ℕ) → first_deep n (declr k (Array x m)) ≡ None
  array_deep x m n = rw fits refl

  declr_complete : (x : DeclrTree) (n e : ℕ) → IsDeclr c x → Spans ks n (declr k x) e → SepAt ks e → declr_at ks d c n ≡ after (first_deep n (declr k x)) (Ok (x, e))
  declr_complete (Plain x) n e o s h = by_const c o
    where
      by_const : (c : Bool) → IsDeclr c (Plain x) → declr_at ks d c n ≡ after (first_deep n (declr k (Plain x))) (Ok (Plain x, e))
      by_const true o = absurd o
      by_const false o =
          declr_plain ks d x n (ident_is ks x n s.0 s.1) (sep_assign ks (suc n) (subst (SepAt ks) (sym s.2) h))
          (sep_bracket ks (suc n) (subst (SepAt ks) (sym s.2) h)) ∙ ap (λ (z : ℕ). Ok (Plain x, z)) s.2
          ∙ ap (λ z. after z (Ok (Plain x, e))) (sym (mark_shallow n (ident_mark k x) fits))
  declr_complete (Init x v) n e o s h =
      let inner = (expr_exact ks k k d room (omega arith)).complete v (suc (suc n)) e o s.2.2 (sep_closed ks e h) in
      declr_init ks d c x n e v (first_deep (suc (suc n)) (expr (suc k) v)) (ident_is ks x n s.0 s.1) s.2.0 inner
      ∙ ap (λ z. after z (Ok (Init x v, e)))
      (sym (deep_over n (ident_mark k x) (sign_mark k sg.Assign ∷ expr (suc k) v) fits
      ∙ deep_over (suc n) (sign_mark k sg.Assign) (expr (suc k) v) fits))
  declr_complete (Array x m) n e o s h = by_const c o
    where
      by_const : (c : Bool) → IsDeclr c (Array x m) → declr_at ks d c n ≡ after (first_deep n (declr k (Array x m))) (Ok (Array x m, e))
      by_const true o = absurd o
      by_const false o =
          declr_array ks d x n m (ident_is ks x n s.0 s.1) s.2.0 (number_is ks m (suc (suc n)) s.2.2.0 s.2.2.1)
          (sign_at_is ks sg.RightBracket (suc (suc (suc n))) s.2.2.2.0) ∙ ap (λ (z : ℕ). Ok (Array x m, z)) s.2.2.2.2
          ∙ ap (λ z. after z (Ok (Array x m, e))) (sym (array_deep x m n))

  unset_sound : (c : Bool) (x : Ident) (n j : ℕ) (y : DeclrTree × ℕ) → slice_get ks n ≡ Some (kind.Name x.name) → x.at ≡ n → suc n ≡ j
      → unset ks c x j ≡ Ok y → Found ks (IsDeclr c) (declr k) Free n y.0 y.1
  unset_sound true x n j y s a i h = cc
  unset_sound false x n j y s a i h = by_test (sign_is sg.LeftBracket (slice_get ks j)) refl h
    where
      by_test : (t : Bool) → sign_is sg.LeftBracket (slice_get ks j) ≡ t
          → cond t (number ks (suc j) >>= λ v. sign_at ks sg.RightBracket v.1 >>= λ e. Ok (Array x v.0, e)) (Ok (Plain x, j)) ≡ Ok y
          → Found ks (IsDeclr false) (declr k) Free n y.0 y.1
      by_test true t h =
          let v = bind_ok (number ks (suc j)) _ y h in
          let b = bind_ok (sign_at ks sg.RightBracket v.0.1) _ y v.2 in
          let q = number_ok ks (suc j) v.0 v.1 in
          let g = sign_at_ok ks sg.RightBracket v.0.1 b.0 b.1 in
          let bracket : slice_get ks (suc n) ≡ Some (kind.Sign sg.LeftBracket) = ap (slice_get ks) i ∙ sign_found sg.LeftBracket (slice_get ks j) t in
          let rest : Spans ks (suc (suc n)) (figure k v.0.0 ∷ sign_mark k sg.RightBracket ∷ []) b.0 =
          subst (λ z. Spans ks (suc z) (figure k v.0.0 ∷ sign_mark k sg.RightBracket ∷ []) b.0) (sym i)
          (q.0, q.1, subst (λ z. Spans ks z (sign_mark k sg.RightBracket ∷ []) b.0) (sym q.2) (g.0, tt, sym g.1)) in
          let made_ : Found ks (IsDeclr false) (declr k) Free n (Array x v.0.0) b.0 = record {
            valid = tt;
            spans = (s, a, (bracket, tt, rest));
            shallow = rw fits refl;
            behind = tt;
          } in
          subst (λ (w : DeclrTree × ℕ). Found ks (IsDeclr false) (declr k) Free n w.0 w.1) (ok_one (Array x v.0.0, b.0) y b.2) made_
      by_test false t h =
          let made_ : Found ks (IsDeclr false) (declr k) Free n (Plain x) j = record {
            valid = tt;
            spans = (s, a, i);
            shallow = rw fits refl;
            behind = tt;
          } in
          subst (λ (w : DeclrTree × ℕ). Found ks (IsDeclr false) (declr k) Free n w.0 w.1) (ok_one (Plain x, j) y h) made_

  declr_sound : (n : ℕ) (y : DeclrTree × ℕ) → declr_at ks d c n ≡ Ok y → Found ks (IsDeclr c) (declr k) Free n y.0 y.1
  unfolding declr_at
  declr_sound n y h =
      let x = bind_ok (ident ks n) _ y h in
      let q = ident_ok ks n x.0 x.1 in
      by_test x.0 q.0 q.1 q.2 (sign_is sg.Assign (slice_get ks x.0.1)) refl x.2
    where
      by_test : (x : Ident × ℕ) → slice_get ks n ≡ Some (kind.Name x.0.name) → x.0.at ≡ n → suc n ≡ x.1 → (t : Bool)
          → sign_is sg.Assign (slice_get ks x.1) ≡ t → cond t (read ks d 0 (suc x.1) >>= λ v. Ok (Init x.0 v.0, v.1)) (unset ks c x.0 x.1) ≡
          Ok y → Found ks (IsDeclr c) (declr k) Free n y.0 y.1
      by_test x s a i true t h =
          let v = bind_ok (read ks d 0 (suc x.1)) _ y h in
          let r = (expr_exact ks k k d room (omega arith)).sound (suc x.1) v.0 v.1 in
          let equals : slice_get ks (suc n) ≡ Some (kind.Sign sg.Assign) = ap (slice_get ks) i ∙ sign_found sg.Assign (slice_get ks x.1) t in
          let at : suc (suc n) ≡ suc x.1 = ap suc i in
          let rest : Spans ks (suc (suc n)) (expr (suc k) v.0.0) v.0.1 = subst (λ z. Spans ks z (expr (suc k) v.0.0) v.0.1) (sym at) r.spans in
          let deep : first_deep (suc (suc n)) (expr (suc k) v.0.0) ≡ None = ap (λ z. first_deep z (expr (suc k) v.0.0)) at ∙ r.shallow in
          let made_ : Found ks (IsDeclr c) (declr k) Free n (Init x.0 v.0.0) v.0.1 = record {
            valid = r.valid;
            spans = (s, a, (equals, tt, rest));
            shallow = rw fits deep;
            behind = tt;
          } in
          subst (λ (w : DeclrTree × ℕ). Found ks (IsDeclr c) (declr k) Free n w.0 w.1) (ok_one (Init x.0 v.0.0, v.0.1) y v.2) made_
      by_test x s a i false t h = unset_sound c x.0 n x.1 y s a i h

  unset_near : (c : Bool) (x : Ident) (j q : ℕ) → unset ks c x j ≡ Err (TooDeep q) → 64 ≤ q
  unset_near true x j q h = cc
  unset_near false x j q h = by_test (sign_is sg.LeftBracket (slice_get ks j)) h
    where
      by_test : (t : Bool) → ◌≡◌ {A = Result (DeclrTree × ℕ) Fault}
          (cond t (number ks (suc j) >>= λ v. sign_at ks sg.RightBracket v.1 >>= λ e. Ok (Array x v.0, e)) (Ok (Plain x, j)))
          (Err (TooDeep q)) → 64 ≤ q
      by_test true h =
          far_bind (number ks (suc j)) _ q h (λ g. absurd (number_near ks (suc j) q g)) (λ v r g. far_bind (sign_at ks sg.RightBracket v.1) _ q g (sign_far ks sg.RightBracket v.1 q) (λ e r g. cc))
      by_test false h = cc

  declr_far : (n q : ℕ) → f ≤ n → declr_at ks d c n ≡ Err (TooDeep q) → 64 ≤ q
  unfolding declr_at
  declr_far n q l h =
      far_bind (ident ks n) _ q h (λ g. absurd (ident_near ks n q g)) (λ x r g. (let i = ident_ok ks n x r in by_test x i.2 (sign_is sg.Assign (slice_get ks x.1)) g))
    where
      by_test : (x : Ident × ℕ) → suc n ≡ x.1 → (t : Bool)
          → ◌≡◌ {A = Result (DeclrTree × ℕ) Fault} (cond t (read ks d 0 (suc x.1) >>= λ v. Ok (Init x.0 v.0, v.1)) (unset ks c x.0 x.1))
          (Err (TooDeep q)) → 64 ≤ q
      by_test x i true h =
          far_bind (read ks d 0 (suc x.1)) _ q h ((expr_exact ks k k d room (omega arith)).far (suc x.1) q (omega arith)) (λ v r g. cc)
      by_test x i false h = unset_near c x.0 x.1 q h

  declr_some : (x : DeclrTree) → 1 ≤ length (declr k x)
  declr_some (Plain x) = omega arith
  declr_some (Init x v) = omega arith
  declr_some (Array x m) = omega arith

  declr_exact : Exact ks f 1 (IsDeclr c) (declr k) (λ x e. SepAt ks e) Free (declr_at ks d c)
  declr_exact = record {
    complete = declr_complete;
    sound = declr_sound;
    moves = λ n y h. (let r = declr_sound n y h in omega (arith, spans_end ks n (declr k y.0) y.1 r.spans, declr_some y.0));
    far = declr_far;
  }

  declrs_are : (xs : List DeclrTree) → declrs k xs ≡ each (declr k) xs
  declrs_are [] = refl
  declrs_are (x ∷ xs) = ap (λ z. declr k x ∷ z) (declrs_are xs)

  commas_long : (xs : List DeclrTree) → length xs ≤ length (commas k (each (declr k) xs))
  commas_long [] = zero-le
  commas_long (x ∷ []) = omega (arith, declr_some x)
  commas_long (x ∷ y ∷ xs) =
      omega (arith, commas_long (y ∷ xs), length-append (declr k x) (sign_mark k sg.Comma ∷ commas k (each (declr k) (y ∷ xs))))

  are_valid : (xs : List DeclrTree) → AreDeclrs c xs → AllValid (IsDeclr c) xs
  are_valid [] h = tt
  are_valid (x ∷ xs) h = (h.0, are_valid xs h.1)

  valid_are : (xs : List DeclrTree) → AllValid (IsDeclr c) xs → AreDeclrs c xs
  valid_are [] h = tt
  valid_are (x ∷ xs) h = (h.0, valid_are xs h.1)

  behind_is : (n e at : ℕ) (xs : List DeclrTree) (o : Option ℕ) → word_at ks wd.Int n ≡ Ok (suc n)
      → separated ks (declr_at ks d c) sg.Semicolon (length ks) (suc n) ≡ after o (Ok (xs, e)) → at ≡ n
      → declaration_behind ks d c n ≡ after o (Ok (record { is_const = c; at = at; declrs = xs }, e))
  unfolding declaration_behind
  behind_is n e at xs None w r a = rw (w, r) (ap (λ (z : ℕ). Ok (record { is_const = c; at = z; declrs = xs }, e)) (sym a))
  behind_is n e at xs (Some p) w r a = rw (w, r) refl

  pub behind_complete : (v : DeclarationTree) (n e : ℕ) → v.is_const ≡ c → v.declrs ≢ [] → AreDeclrs c v.declrs → Spans ks n (tail_of k v) e
      → declaration_behind ks d c n ≡ after (first_deep n (tail_of k v)) (Ok (v, e))
  behind_complete v n e i o g s =
      let same : commas k (declrs k v.declrs) ++ sign_mark k sg.Semicolon ∷ [] ≡ row k (declr k) sg.Semicolon v.declrs = ap (λ z. commas k z ++ sign_mark k sg.Semicolon ∷ []) (declrs_are v.declrs) in
      let s' = subst (λ z. Spans ks (suc n) z e) same s.2 in
      let bound = spans_within ks n (named_word k wd.Int v.at) (row k (declr k) sg.Semicolon v.declrs) e (s.0, s.1, s') in
      let inner = separated_complete ks f 1 k (IsDeclr c) (declr k) (λ x e. SepAt ks e) Free (declr_at ks d c) sg.Semicolon declr_exact fits
      refl (λ a n h. inl h) (λ a n h. inr h) v.declrs (length ks) (suc n) e o
      (omega (
        arith,
        spans_end ks (suc n) (row k (declr k) sg.Semicolon v.declrs) e s',
        length-append (commas k (each (declr k) v.declrs)) (sign_mark k sg.Semicolon ∷ []),
        commas_long v.declrs,
      )) (are_valid v.declrs g)
      s' in
      let made_ = behind_is n e v.at v.declrs (first_deep (suc n) (row k (declr k) sg.Semicolon v.declrs)) (word_at_is ks wd.Int n s.0) inner s.1 in
      made_ ∙ ap (λ (z : Bool). after (first_deep (suc n) (row k (declr k) sg.Semicolon v.declrs))
      (Ok (record { is_const = z; at = v.at; declrs = v.declrs }, e))) (sym i)
      ∙ ap (λ z. after z (Ok (v, e)))
      (sym (deep_over n (named_word k wd.Int v.at) (commas k (declrs k v.declrs) ++ sign_mark k sg.Semicolon ∷ []) fits
      ∙ ap (first_deep (suc n)) same))

  pub behind_sound : (n : ℕ) (y : DeclarationTree × ℕ) → declaration_behind ks d c n ≡ Ok y → (y.0.is_const ≡ c)
      × ((y.0.declrs ≢ []) × (AreDeclrs c y.0.declrs × (Spans ks n (tail_of k y.0) y.1 × (first_deep n (tail_of k y.0) ≡ None))))
  unfolding declaration_behind
  behind_sound n y h =
      let m = bind_ok (word_at ks wd.Int n) _ y h in
      let w = word_at_ok ks wd.Int n m.0 m.1 in
      let xs = bind_ok (separated ks (declr_at ks d c) sg.Semicolon (length ks) m.0) _ y m.2 in
      let r : Separated ks k (IsDeclr c) (declr k) sg.Semicolon (suc n) xs.0.0 xs.0.1 =
      subst (λ z. Separated ks k (IsDeclr c) (declr k) sg.Semicolon z xs.0.0 xs.0.1) w.1
      (separated_sound ks f 1 k (IsDeclr c) (declr k) (λ x e. SepAt ks e) Free (declr_at ks d c) sg.Semicolon declr_exact fits refl
      (λ a n h. inl h) (λ a n h. inr h) (length ks) m.0 xs.0 xs.1) in
      let same : row k (declr k) sg.Semicolon xs.0.0 ≡ commas k (declrs k xs.0.0) ++ sign_mark k sg.Semicolon ∷ [] = ap (λ z. commas k z ++ sign_mark k sg.Semicolon ∷ []) (sym (declrs_are xs.0.0)) in
      let made_ : (c ≡ c) × ((xs.0.0 ≢ []) ×
      (AreDeclrs c xs.0.0 × (Spans ks n (tail_of k (record { is_const = c; at = n; declrs = xs.0.0 })) xs.0.1
      × (first_deep n (tail_of k (record { is_const = c; at = n; declrs = xs.0.0 })) ≡ None)))) = (
        refl,
        (
          r.some,
          (
            valid_are xs.0.0 r.valid,
            (
              (w.0, refl, subst (λ z. Spans ks (suc n) z xs.0.1) same r.spans),
              deep_over n (named_word k wd.Int n) (commas k (declrs k xs.0.0) ++ sign_mark k sg.Semicolon ∷ []) fits
                  ∙ ap (first_deep (suc n)) (sym same) ∙ r.shallow,
            ),
          ),
        ),
      ) in
      subst (λ (w : DeclarationTree × ℕ). (w.0.is_const ≡ c)
      × ((w.0.declrs ≢ []) × (AreDeclrs c w.0.declrs × (Spans ks n (tail_of k w.0) w.1 × (first_deep n (tail_of k w.0) ≡ None)))))
      (ok_one (record { is_const = c; at = n; declrs = xs.0.0 }, xs.0.1) y xs.2) made_

  pub behind_far : (n q : ℕ) → f ≤ n → declaration_behind ks d c n ≡ Err (TooDeep q) → 64 ≤ q
  unfolding declaration_behind
  behind_far n q l h =
      far_bind (word_at ks wd.Int n) _ q h (word_far ks wd.Int n q) (λ m r g.
      (let w = word_at_ok ks wd.Int n m r in
      far_bind (separated ks (declr_at ks d c) sg.Semicolon (length ks) m) _ q g
      (separated_far ks f 1 k (IsDeclr c) (declr k) (λ x e. SepAt ks e) Free (declr_at ks d c) sg.Semicolon declr_exact fits refl
      (λ a n h. inl h) (λ a n h. inr h) (length ks) m q (omega (arith, w.1))) (λ x r g. cc)))

at_const : (ks : List Kind) (d n : ℕ) → slice_get ks n ≡ Some (kind.Word wd.Const) → declaration_at ks d n ≡ declaration_behind ks d true (suc n)
unfolding declaration_at
at_const ks d n h = rw h refl

at_int : (ks : List Kind) (d n : ℕ) → word_is wd.Const (slice_get ks n) ≡ false → declaration_at ks d n ≡ declaration_behind ks d false n
unfolding declaration_at
at_int ks d n h = rw h refl

vars_by : (k : ℕ) (v : DeclarationTree) (c : Bool) → v.is_const ≡ c → vars k v ≡ word_if c k wd.Const ++ tail_of k v
vars_by k v c i = ap (λ z. word_if z k wd.Const ++ tail_of k v) i

module _ (ks : List Kind) (f k d : ℕ) (room : suc k + d ≡ 65) (before : k ≤ f + 1) where
  high : nat_lt 64 k ≡ false
  high = level_fits k d (omega arith)

  pub declaration_complete : (v : DeclarationTree) (n e : ℕ) → IsDeclaration v → Spans ks n (vars k v) e → declaration_at ks d n ≡ after (first_deep n (vars k v)) (Ok (v, e))
  declaration_complete v n e o s = by_const v.is_const refl o.1 (subst (λ z. Spans ks n z e) (vars_by k v v.is_const refl) s)
    where
      by_const : (c : Bool) → v.is_const ≡ c → AreDeclrs c v.declrs → Spans ks n (word_if c k wd.Const ++ tail_of k v) e → declaration_at ks d n ≡ after (first_deep n (vars k v)) (Ok (v, e))
      by_const true i g s =
          at_const ks d n s.0 ∙ behind_complete ks f k d room before true v (suc n) e i o.0 g s.2
          ∙ ap (λ z. after z (Ok (v, e)))
          (sym (ap (first_deep n) (vars_by k v true i) ∙ deep_over n (Rattle.c_tree.specs.Print.word_at k wd.Const) (tail_of k v) high))
      by_const false i g s =
          at_int ks d n (rw s.0 refl) ∙ behind_complete ks f k d room before false v n e i o.0 g s ∙ ap (λ z. after z (Ok (v, e))) (sym (ap (first_deep n) (vars_by k v false i)))

  pub declaration_sound : (n : ℕ) (y : DeclarationTree × ℕ) → declaration_at ks d n ≡ Ok y → Found ks IsDeclaration (vars k) Free n y.0 y.1
      × ((word_is wd.Const (slice_get ks n) ≡ false) → y.0.is_const ≡ false)
  declaration_sound n y h = by_test (word_is wd.Const (slice_get ks n)) refl
    where
      by_test : (t : Bool) → word_is wd.Const (slice_get ks n) ≡ t → Found ks IsDeclaration (vars k) Free n y.0 y.1 × ((word_is wd.Const (slice_get ks n) ≡ false) → y.0.is_const ≡ false)
      by_test true t =
          let here = word_found wd.Const (slice_get ks n) t in
          let r = behind_sound ks f k d room before true (suc n) y (sym (at_const ks d n here) ∙ h) in
          let same = vars_by k y.0 true r.0 in (
            record {
              valid = (r.1.0, subst (λ z. AreDeclrs z y.0.declrs) (sym r.0) r.1.1.0);
              spans = subst (λ z. Spans ks n z y.1) (sym same) (here, tt, r.1.1.1.0);
              shallow = ap (first_deep n) same ∙ deep_over n (Rattle.c_tree.specs.Print.word_at k wd.Const) (tail_of k y.0) high ∙ r.1.1.1.1;
              behind = tt;
            },
            λ u. absurd (apart (sym t ∙ u)),
          )
        where
          apart : true ≡ false → ⊥
          apart q = cc
      by_test false t =
          let r = behind_sound ks f k d room before false n y (sym (at_int ks d n t) ∙ h) in
          let same = vars_by k y.0 false r.0 in (
            record {
              valid = (r.1.0, subst (λ z. AreDeclrs z y.0.declrs) (sym r.0) r.1.1.0);
              spans = subst (λ z. Spans ks n z y.1) (sym same) r.1.1.1.0;
              shallow = ap (first_deep n) same ∙ r.1.1.1.1;
              behind = tt;
            },
            λ u. r.0,
          )

  pub declaration_far : (n q : ℕ) → f ≤ n → declaration_at ks d n ≡ Err (TooDeep q) → 64 ≤ q
  declaration_far n q l h = by_test (word_is wd.Const (slice_get ks n)) refl
    where
      by_test : (t : Bool) → word_is wd.Const (slice_get ks n) ≡ t → 64 ≤ q
      by_test true t =
          behind_far ks f k d room before true (suc n) q (omega arith) (sym (at_const ks d n (word_found wd.Const (slice_get ks n) t)) ∙ h)
      by_test false t = behind_far ks f k d room before false n q l (sym (at_int ks d n t) ∙ h)
