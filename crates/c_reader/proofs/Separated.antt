-- Items with commas between them are read exactly as they are printed.
use Rattle.std.proofs.Common.{◌≡◌, ◌≢◌, ℕ, zero, suc, ◌+◌, ◌≤◌, Bool, true, false, cond, List, [], ◌∷◌, ◌++◌, length, Option, Some, None, Result, Ok, Err, refl, sym, ap, subst, ◌∙◌, arith, slice_get, nat_lt, append_assoc}
use Rattle.c_tree.specs.declared.lexer.tokens.Kind.{Kind}
use Rattle.c_tree.specs.declared.lexer.tokens.Kind.TheVariants as kind
use Rattle.c_tree.specs.declared.lexer.tokens.Sign.{Sign}
use Rattle.c_tree.specs.declared.lexer.tokens.Sign.TheVariants as sg
use Rattle.c_tree.specs.Print.{Mark, sign_at as sign_mark, commas}
use Rattle.c_tree.specs.Reads.{first_deep}
use Rattle.c_reader.specs.declared.faults.Fault.{Fault}
use Rattle.c_reader.specs.declared.faults.Fault.TheVariants.{TooDeep}
use Rattle.c_reader.specs.Descent.{◌>>=◌, sign_is, sign_at}
use Rattle.c_reader.specs.Rows.{Reader, separated}
use Rattle.c_reader.proofs.Spans.{Spans, spans_split, spans_join, or_else, deep_between, deep_closed, after}
use Rattle.c_reader.proofs.Steps.{sign_at_is, sign_at_ok, sign_found}
use Rattle.c_reader.proofs.Sound.{bind_ok, ok_one}
use Rattle.c_reader.proofs.Far.{far_bind, sign_far}
use Rattle.c_reader.proofs.Exactness.{Exact, Found}
use Rattle.c_reader.proofs.Lists.{AllValid}

abbrev pub each : {A : Type 0} → (A → List Mark) → List A → List (List Mark)
each marks [] = []
each marks (x ∷ xs) = marks x ∷ each marks xs

-- the items, and the sign that ends them
abbrev pub row : {A : Type 0} → ℕ → (A → List Mark) → Sign → List A → List Mark
row k marks t xs = commas k (each marks xs) ++ sign_mark k t ∷ []

separated_goes : {A : Type 0} (ks : List Kind) (p : Reader A) (t : Sign) (c n j e : ℕ) (a : A) (xs : List A) (x y : Option ℕ)
    → p n ≡ after x (Ok (a, j)) → slice_get ks j ≡ Some (kind.Sign sg.Comma) → separated ks p t c (suc j) ≡ after y (Ok (xs, e))
    → separated ks p t (suc c) n ≡ after (or_else x y) (Ok (a ∷ xs, e))
unfolding separated
separated_goes ks p t c n j e a xs None None h g r = rw (h, g, r) refl
separated_goes ks p t c n j e a xs None (Some y) h g r = rw (h, g, r) refl
separated_goes ks p t c n j e a xs (Some x) y h g r = rw h refl

separated_last : {A : Type 0} (ks : List Kind) (p : Reader A) (t : Sign) (c n j : ℕ) (a : A) (x : Option ℕ) → p n ≡ after x (Ok (a, j))
    → slice_get ks j ≡ Some (kind.Sign t) → sign_is sg.Comma (Some (kind.Sign t)) ≡ false
    → separated ks p t (suc c) n ≡ after x (Ok (a ∷ [], suc j))
unfolding separated
separated_last ks p t c n j a None h g d = rw (h, sign_at_is ks t j g, g, d) refl
separated_last ks p t c n j a (Some x) h g d = rw h refl

-- what was read
pub record Separated (ks : List Kind) {A : Type 0} (k : ℕ) (ok : A → Type 0) (marks : A → List Mark) (t : Sign) (n : ℕ) (xs : List A) (e : ℕ) : Type 0 where
  pub some : xs ≢ []
  pub valid : AllValid ok xs
  pub spans : Spans ks n (row k marks t xs) e
  pub shallow : first_deep n (row k marks t xs) ≡ None

module _ (ks : List Kind) {A : Type 0} (from size k : ℕ) (ok : A → Type 0) (marks : A → List Mark) (needs gives : A → ℕ → Type 0)
    (p : Reader A) (t : Sign) (x : Exact ks from size ok marks needs gives p) (fits : nat_lt 64 k ≡ false)
    (other : sign_is sg.Comma (Some (kind.Sign t)) ≡ false)
    (comma : (a : A) (n : ℕ) → slice_get ks n ≡ Some (kind.Sign sg.Comma) → needs a n)
    (last : (a : A) (n : ℕ) → slice_get ks n ≡ Some (kind.Sign t) → needs a n) where
  row_more : (a b : A) (xs : List A) → row k marks t (a ∷ b ∷ xs) ≡ marks a ++ (sign_mark k sg.Comma ∷ row k marks t (b ∷ xs))
  row_more a b xs = append_assoc (marks a) (sign_mark k sg.Comma ∷ commas k (each marks (b ∷ xs))) (sign_mark k t ∷ [])

  pub separated_complete : (xs : List A) (c n e : ℕ) → xs ≢ [] → length xs ≤ c → AllValid ok xs → Spans ks n (row k marks t xs) e
      → separated ks p t c n ≡ after (first_deep n (row k marks t xs)) (Ok (xs, e))
  separated_complete [] c n e i f o s = absurd (i refl)
  separated_complete (a ∷ xs) zero n e i f o s = absurd (omega arith)
  separated_complete (a ∷ []) (suc c) n e i f o s =
      let r = spans_split ks n (marks a) (sign_mark k t ∷ []) e s in
      let first = x.complete a n r.0 o.0 r.1 (last a r.0 r.2.0) in
      separated_last ks p t c n r.0 a (first_deep n (marks a)) first r.2.0 other
      ∙ ap (λ (z : ℕ). after (first_deep n (marks a)) (Ok (a ∷ [], z))) r.2.2
      ∙ ap (λ z. after z (Ok (a ∷ [], e))) (sym (deep_closed ks n (marks a) (sign_mark k t) r.0 r.1 fits))
  separated_complete (a ∷ b ∷ xs) (suc c) n e i f o s =
      let s' = subst (λ z. Spans ks n z e) (row_more a b xs) s in
      let r = spans_split ks n (marks a) (sign_mark k sg.Comma ∷ row k marks t (b ∷ xs)) e s' in
      let first = x.complete a n r.0 o.0 r.1 (comma a r.0 r.2.0) in
      let more = separated_complete (b ∷ xs) c (suc r.0) e (λ z. (let q : ⊥ = cc in q)) (omega arith) o.1 r.2.2 in
      separated_goes ks p t c n r.0 e a (b ∷ xs) (first_deep n (marks a)) (first_deep (suc r.0) (row k marks t (b ∷ xs))) first r.2.0 more
      ∙ ap (λ z. after z (Ok (a ∷ b ∷ xs, e)))
      (sym (ap (first_deep n) (row_more a b xs) ∙ deep_between ks n (marks a) (sign_mark k sg.Comma) (row k marks t (b ∷ xs)) r.0 r.1
      fits))

  sep_join : (n j e : ℕ) (a : A) (xs : List A) → ok a → Spans ks n (marks a) j → first_deep n (marks a) ≡ None
      → slice_get ks j ≡ Some (kind.Sign sg.Comma) → Separated ks k ok marks t (suc j) xs e → Separated ks k ok marks t n (a ∷ xs) e
  sep_join n j e a [] o s d h r = absurd (r.some refl)
  sep_join n j e a (b ∷ xs) o s d h r = record {
    some = λ z. (let q : ⊥ = cc in q);
    valid = (o, r.valid);
    spans = subst (λ z. Spans ks n z e) (sym (row_more a b xs)) (spans_join ks n (marks a) (sign_mark k sg.Comma ∷ row k marks t (b ∷ xs)) j e s (h, tt, r.spans));
    shallow = ap (first_deep n) (row_more a b xs) ∙ deep_between ks n (marks a) (sign_mark k sg.Comma) (row k marks t (b ∷ xs)) j s fits ∙ rw (d, r.shallow) refl;
  }

  pub separated_sound : (c n : ℕ) (y : List A × ℕ) → separated ks p t c n ≡ Ok y → Separated ks k ok marks t n y.0 y.1
  unfolding separated
  separated_sound zero n y h = cc
  separated_sound (suc c) n y h =
      let a = bind_ok (p n) _ y h in
      by_test a.0 (x.sound n a.0 a.1) (sign_is sg.Comma (slice_get ks a.0.1)) refl a.2 (λ j z g. separated_sound c j z g)
    where
      by_test : (a : A × ℕ) → Found ks ok marks gives n a.0 a.1 → (u : Bool) → sign_is sg.Comma (slice_get ks a.1) ≡ u
          → cond u (separated ks p t c (suc a.1) >>= λ r. Ok (a.0 ∷ r.0, r.1)) (sign_at ks t a.1 >>= λ e. Ok (a.0 ∷ [], e)) ≡ Ok y
          → ((j : ℕ) (z : List A × ℕ) → separated ks p t c j ≡ Ok z → Separated ks k ok marks t j z.0 z.1)
          → Separated ks k ok marks t n y.0 y.1
      by_test a q true u h go =
          let b = bind_ok (separated ks p t c (suc a.1)) _ y h in
          let made = sep_join n a.1 b.0.1 a.0 b.0.0 q.valid q.spans q.shallow (sign_found sg.Comma (slice_get ks a.1) u) (go (suc a.1) b.0 b.1) in
          subst (λ (w : List A × ℕ). Separated ks k ok marks t n w.0 w.1) (ok_one (a.0 ∷ b.0.0, b.0.1) y b.2) made
      by_test a q false u h go =
          let b = bind_ok (sign_at ks t a.1) _ y h in
          let g = sign_at_ok ks t a.1 b.0 b.1 in
          let made : Separated ks k ok marks t n (a.0 ∷ []) b.0 = record {
            some = λ z. (let q : ⊥ = cc in q);
            valid = (q.valid, tt);
            spans = spans_join ks n (marks a.0) (sign_mark k t ∷ []) a.1 b.0 q.spans (g.0, tt, sym g.1);
            shallow = deep_closed ks n (marks a.0) (sign_mark k t) a.1 q.spans fits ∙ q.shallow;
          } in
          subst (λ (w : List A × ℕ). Separated ks k ok marks t n w.0 w.1) (ok_one (a.0 ∷ [], b.0) y b.2) made

  pub separated_far : (c n q : ℕ) → from ≤ n → separated ks p t c n ≡ Err (TooDeep q) → 64 ≤ q
  unfolding separated
  separated_far zero n q l h = cc
  separated_far (suc c) n q l h =
      far_bind (p n) _ q h (x.far n q l) (λ a r g. by_test a (x.moves n a r) (sign_is sg.Comma (slice_get ks a.1)) g (λ j m i. separated_far c j q m i))
    where
      by_test : (a : A × ℕ) → n + size ≤ a.1 → (u : Bool)
          → ◌≡◌ {A = Result (List A × ℕ) Fault}
          (cond u (separated ks p t c (suc a.1) >>= λ r. Ok (a.0 ∷ r.0, r.1)) (sign_at ks t a.1 >>= λ e. Ok (a.0 ∷ [], e)))
          (Err (TooDeep q)) → ((j : ℕ) → from ≤ j → separated ks p t c j ≡ Err (TooDeep q) → 64 ≤ q) → 64 ≤ q
      by_test a m true h go = far_bind (separated ks p t c (suc a.1)) _ q h (go (suc a.1) (omega arith)) (λ b r g. cc)
      by_test a m false h go = far_bind (sign_at ks t a.1) _ q h (sign_far ks t a.1 q) (λ b r g. cc)
