-- Readers of lists of items answer exactly what is printed.
use Rattle.std.proofs.Common.{◌≡◌, ℕ, zero, suc, ◌≤◌, ◌<◌, Bool, true, false, cond, List, [], ◌∷◌, ◌++◌, length, Option, Some, None, Result, Ok, Err, refl, sym, ap, subst, ◌∙◌, arith, slice_get, nat_lt}
use Rattle.c_tree.specs.declared.lexer.tokens.Kind.{Kind}
use Rattle.c_tree.specs.declared.lexer.tokens.Kind.TheVariants as kind
use Rattle.c_tree.specs.declared.lexer.tokens.Sign.TheVariants as sg
use Rattle.c_tree.specs.Print.{Mark, sign_at as sign_mark}
use Rattle.c_tree.specs.Reads.{first_deep}
use Rattle.c_reader.specs.declared.faults.Fault.{Fault}
use Rattle.c_reader.specs.declared.faults.Fault.TheVariants.{TooDeep}
use Rattle.c_reader.specs.Descent.{◌>>=◌, sign_is}
use Rattle.c_reader.specs.Rows.{Reader, behind_commas, until}
use Rattle.c_reader.proofs.Spans.{Spans, spans_split, spans_join, or_else, deep_split, deep_over, after}
use Rattle.c_reader.proofs.Steps.{sign_found}
use Rattle.c_reader.proofs.Sound.{bind_ok, ok_one}
use Rattle.c_reader.proofs.Far.{far_bind}
use Rattle.c_reader.proofs.Exactness.{Exact}

-- each item is valid
abbrev pub AllValid : {A : Type 0} → (A → Type 0) → List A → Type 0
AllValid ok [] = Unit {0}
AllValid ok (x ∷ xs) = ok x × AllValid ok xs

-- items one after another
abbrev pub joined : {A : Type 0} → (A → List Mark) → List A → List Mark
joined marks [] = []
joined marks (x ∷ xs) = marks x ++ joined marks xs

until_goes : {A : Type 0} (closes : ℕ → Bool) (p : Reader A) (c n j e : ℕ) (a : A) (xs : List A) (x y : Option ℕ) → closes n ≡ false
    → p n ≡ after x (Ok (a, j)) → until closes p c j ≡ after y (Ok (xs, e))
    → until closes p (suc c) n ≡ after (or_else x y) (Ok (a ∷ xs, e))
unfolding until
until_goes closes p c n j e a xs None None h g r = rw (h, g, r) refl
until_goes closes p c n j e a xs None (Some y) h g r = rw (h, g, r) refl
until_goes closes p c n j e a xs (Some x) y h g r = rw (h, g) refl

until_stops : {A : Type 0} (closes : ℕ → Bool) (p : Reader A) (c n : ℕ) → closes n ≡ true → until closes p (suc c) n ≡ Ok ([], n)
unfolding until
until_stops closes p c n h = rw h refl

-- Items up to what closes them: `Good` is what stands where an item or what closes them begins.
module _ (ks : List Kind) {A : Type 0} (from : ℕ) (ok : A → Type 0) (marks : A → List Mark) (needs gives : A → ℕ → Type 0) (p : Reader A)
    (x : Exact ks from 1 ok marks needs gives p) (closes : ℕ → Bool) (Good : ℕ → Type 0)
    (starts : (a : A) (n e : ℕ) (more : List Mark) → ok a → Spans ks n (marks a ++ more) e → (closes n ≡ false) × Good n)
    (stops : (n : ℕ) → closes n ≡ true → Good n) (use_ : (a : A) (n : ℕ) → Good n → needs a n) where
  begins_good : (xs : List A) (n e : ℕ) → AllValid ok xs → Spans ks n (joined marks xs) e → closes e ≡ true → Good n
  begins_good [] n e o s h = subst Good (sym s) (stops e h)
  begins_good (a ∷ xs) n e o s h = (starts a n e (joined marks xs) o.0 s).1

  pub until_complete : (xs : List A) (c n e : ℕ) → length xs < c → AllValid ok xs → Spans ks n (joined marks xs) e → closes e ≡ true
      → until closes p c n ≡ after (first_deep n (joined marks xs)) (Ok (xs, e))
  until_complete [] zero n e f o s h = absurd (omega arith)
  until_complete [] (suc c) n e f o s h =
      until_stops closes p c n (subst (λ z. closes z ≡ true) (sym s) h) ∙ ap (λ (z : ℕ). Ok ([], z)) s
  until_complete (a ∷ xs) zero n e f o s h = absurd (omega arith)
  until_complete (a ∷ xs) (suc c) n e f o s h =
      let r = spans_split ks n (marks a) (joined marks xs) e s in
      let first = x.complete a n r.0 o.0 r.1 (use_ a r.0 (begins_good xs r.0 e o.1 r.2 h)) in
      let more = until_complete xs c r.0 e (omega arith) o.1 r.2 h in
      until_goes closes p c n r.0 e a xs (first_deep n (marks a)) (first_deep r.0 (joined marks xs))
      (starts a n e (joined marks xs) o.0 s).0 first more
      ∙ ap (λ z. after z (Ok (a ∷ xs, e))) (sym (deep_split ks n (marks a) (joined marks xs) r.0 r.1))

-- what was read of items up to what closes them
pub record Listed (ks : List Kind) {A : Type 0} (ok : A → Type 0) (marks : A → List Mark) (n : ℕ) (xs : List A) (e : ℕ) : Type 0 where
  pub valid : AllValid ok xs
  pub spans : Spans ks n (joined marks xs) e
  pub shallow : first_deep n (joined marks xs) ≡ None

module _ (ks : List Kind) {A : Type 0} (from size : ℕ) (ok : A → Type 0) (marks : A → List Mark) (needs gives : A → ℕ → Type 0)
    (p : Reader A) (x : Exact ks from size ok marks needs gives p) (closes : ℕ → Bool) where
  pub until_sound : (c n : ℕ) (y : List A × ℕ) → until closes p c n ≡ Ok y → Listed ks ok marks n y.0 y.1 × (closes y.1 ≡ true)
  unfolding until
  until_sound zero n y h = cc
  until_sound (suc c) n y h = by_test (closes n) refl h (λ j z g. until_sound c j z g)
    where
      by_test : (t : Bool) → closes n ≡ t → cond t (Ok ([], n)) (p n >>= λ a. until closes p c a.1 >>= λ r. Ok (a.0 ∷ r.0, r.1)) ≡ Ok y
          → ((j : ℕ) (z : List A × ℕ) → until closes p c j ≡ Ok z → Listed ks ok marks j z.0 z.1 × (closes z.1 ≡ true))
          → Listed ks ok marks n y.0 y.1 × (closes y.1 ≡ true)
      by_test true t h go =
          let made : Listed ks ok marks n [] n × (closes n ≡ true) = (record { valid = tt; spans = refl; shallow = refl }, t) in
          subst (λ (w : List A × ℕ). Listed ks ok marks n w.0 w.1 × (closes w.1 ≡ true)) (ok_one ([], n) y h) made
      by_test false t h go =
          let a = bind_ok (p n) _ y h in
          let b = bind_ok (until closes p c a.0.1) _ y a.2 in
          let first = x.sound n a.0 a.1 in
          let more = go a.0.1 b.0 b.1 in
          let made : Listed ks ok marks n (a.0.0 ∷ b.0.0) b.0.1 × (closes b.0.1 ≡ true) = (
            record {
              valid = (first.valid, more.0.valid);
              spans = spans_join ks n (marks a.0.0) (joined marks b.0.0) a.0.1 b.0.1 first.spans more.0.spans;
              shallow = deep_split ks n (marks a.0.0) (joined marks b.0.0) a.0.1 first.spans ∙ rw (first.shallow, more.0.shallow) refl;
            },
            more.1,
          ) in
          subst (λ (w : List A × ℕ). Listed ks ok marks n w.0 w.1 × (closes w.1 ≡ true)) (ok_one (a.0.0 ∷ b.0.0, b.0.1) y b.2) made

  pub until_far : (c n q : ℕ) → from ≤ n → until closes p c n ≡ Err (TooDeep q) → 64 ≤ q
  unfolding until
  until_far zero n q l h = cc
  until_far (suc c) n q l h = by_test (closes n) h (λ j m g. until_far c j q m g)
    where
      by_test : (t : Bool) → ◌≡◌ {A = Result (List A × ℕ) Fault}
          (cond t (Ok ([], n)) (p n >>= λ a. until closes p c a.1 >>= λ r. Ok (a.0 ∷ r.0, r.1))) (Err (TooDeep q))
          → ((j : ℕ) → from ≤ j → until closes p c j ≡ Err (TooDeep q) → 64 ≤ q) → 64 ≤ q
      by_test true h go = cc
      by_test false h go =
          far_bind (p n) _ q h (x.far n q l) (λ a r g.
          (let moved = x.moves n a r in
          far_bind (until closes p c a.1) _ q g (go a.1 (omega arith)) (λ b r g. cc)))

-- items that each stand behind a comma
abbrev pub tails : {A : Type 0} → ℕ → (A → List Mark) → List A → List Mark
tails k marks [] = []
tails k marks (x ∷ xs) = sign_mark k sg.Comma ∷ (marks x ++ tails k marks xs)

commas_goes : {A : Type 0} (ks : List Kind) (p : Reader A) (c n j e : ℕ) (a : A) (xs : List A) (x y : Option ℕ)
    → slice_get ks n ≡ Some (kind.Sign sg.Comma) → p (suc n) ≡ after x (Ok (a, j)) → behind_commas ks p c j ≡ after y (Ok (xs, e))
    → behind_commas ks p (suc c) n ≡ after (or_else x y) (Ok (a ∷ xs, e))
unfolding behind_commas
commas_goes ks p c n j e a xs None None h g r = rw (h, g, r) refl
commas_goes ks p c n j e a xs None (Some y) h g r = rw (h, g, r) refl
commas_goes ks p c n j e a xs (Some x) y h g r = rw (h, g) refl

commas_stops : {A : Type 0} (ks : List Kind) (p : Reader A) (c n : ℕ) → sign_is sg.Comma (slice_get ks n) ≡ false → behind_commas ks p (suc c) n ≡ Ok ([], n)
unfolding behind_commas
commas_stops ks p c n h = rw h refl

-- `)` stands there
abbrev pub ParenAt : List Kind → ℕ → Type 0
ParenAt ks n = slice_get ks n ≡ Some (kind.Sign sg.RightParen)

module _ (ks : List Kind) {A : Type 0} (from size k : ℕ) (ok : A → Type 0) (marks : A → List Mark) (needs gives : A → ℕ → Type 0)
    (p : Reader A) (x : Exact ks from size ok marks needs gives p) (fits : nat_lt 64 k ≡ false)
    (comma : (a : A) (n : ℕ) → slice_get ks n ≡ Some (kind.Sign sg.Comma) → needs a n) (paren : (a : A) (n : ℕ) → ParenAt ks n → needs a n)
  where
    next_needs : (a : A) (xs : List A) (n e : ℕ) → Spans ks n (tails k marks xs) e → ParenAt ks e → needs a n
    next_needs a [] n e s h = subst (needs a) (sym s) (paren a e h)
    next_needs a (b ∷ xs) n e s h = comma a n s.0

    pub tails_complete : (xs : List A) (c n e : ℕ) → length xs < c → AllValid ok xs → Spans ks n (tails k marks xs) e → ParenAt ks e
        → behind_commas ks p c n ≡ after (first_deep n (tails k marks xs)) (Ok (xs, e))
    tails_complete [] zero n e f o s h = absurd (omega arith)
    tails_complete [] (suc c) n e f o s h =
        let here : slice_get ks n ≡ Some (kind.Sign sg.RightParen) = subst (ParenAt ks) (sym s) h in
        commas_stops ks p c n (rw here refl) ∙ ap (λ (z : ℕ). Ok ([], z)) s
    tails_complete (a ∷ xs) zero n e f o s h = absurd (omega arith)
    tails_complete (a ∷ xs) (suc c) n e f o s h =
        let r = spans_split ks (suc n) (marks a) (tails k marks xs) e s.2 in
        let first = x.complete a (suc n) r.0 o.0 r.1 (next_needs a xs r.0 e r.2 h) in
        let more = tails_complete xs c r.0 e (omega arith) o.1 r.2 h in
        commas_goes ks p c n r.0 e a xs (first_deep (suc n) (marks a)) (first_deep r.0 (tails k marks xs)) s.0 first more
        ∙ ap (λ z. after z (Ok (a ∷ xs, e)))
        (sym (deep_over n (sign_mark k sg.Comma) (marks a ++ tails k marks xs) fits
        ∙ deep_split ks (suc n) (marks a) (tails k marks xs) r.0 r.1))

    pub tails_sound : (c n : ℕ) (y : List A × ℕ) → behind_commas ks p c n ≡ Ok y → AllValid ok y.0 × (Spans ks n (tails k marks y.0) y.1 × (first_deep n (tails k marks y.0) ≡ None))
    unfolding behind_commas
    tails_sound zero n y h = cc
    tails_sound (suc c) n y h = by_test (sign_is sg.Comma (slice_get ks n)) refl h (λ j z g. tails_sound c j z g)
      where
        by_test : (t : Bool) → sign_is sg.Comma (slice_get ks n) ≡ t
            → cond t (p (suc n) >>= λ a. behind_commas ks p c a.1 >>= λ r. Ok (a.0 ∷ r.0, r.1)) (Ok ([], n)) ≡ Ok y
            → ((j : ℕ) (z : List A × ℕ) → behind_commas ks p c j ≡ Ok z → AllValid ok z.0
            × (Spans ks j (tails k marks z.0) z.1 × (first_deep j (tails k marks z.0) ≡ None))) → AllValid ok y.0
            × (Spans ks n (tails k marks y.0) y.1 × (first_deep n (tails k marks y.0) ≡ None))
        by_test false t h go =
            let made : AllValid ok [] × (Spans ks n [] n × (first_deep n [] ≡ None)) = (tt, (refl, refl)) in
            subst (λ (w : List A × ℕ). AllValid ok w.0 × (Spans ks n (tails k marks w.0) w.1 × (first_deep n (tails k marks w.0) ≡ None))) (ok_one ([], n) y h) made
        by_test true t h go =
            let a = bind_ok (p (suc n)) _ y h in
            let b = bind_ok (behind_commas ks p c a.0.1) _ y a.2 in
            let first = x.sound (suc n) a.0 a.1 in
            let more = go a.0.1 b.0 b.1 in
            let made : AllValid ok (a.0.0 ∷ b.0.0) ×
            (Spans ks n (tails k marks (a.0.0 ∷ b.0.0)) b.0.1 × (first_deep n (tails k marks (a.0.0 ∷ b.0.0)) ≡ None)) = (
              (first.valid, more.0),
              (
                (
                  sign_found sg.Comma (slice_get ks n) t,
                  tt,
                  spans_join ks (suc n) (marks a.0.0) (tails k marks b.0.0) a.0.1 b.0.1 first.spans more.1.0,
                ),
                deep_over n (sign_mark k sg.Comma) (marks a.0.0 ++ tails k marks b.0.0) fits
                    ∙ deep_split ks (suc n) (marks a.0.0) (tails k marks b.0.0) a.0.1 first.spans ∙ rw (first.shallow, more.1.1) refl,
              ),
            ) in
            subst (λ (w : List A × ℕ). AllValid ok w.0 × (Spans ks n (tails k marks w.0) w.1 × (first_deep n (tails k marks w.0) ≡ None))) (ok_one (a.0.0 ∷ b.0.0, b.0.1) y b.2) made

    pub tails_far : (c n q : ℕ) → from ≤ n → behind_commas ks p c n ≡ Err (TooDeep q) → 64 ≤ q
    unfolding behind_commas
    tails_far zero n q l h = cc
    tails_far (suc c) n q l h = by_test (sign_is sg.Comma (slice_get ks n)) h (λ j m g. tails_far c j q m g)
      where
        by_test : (t : Bool) → ◌≡◌ {A = Result (List A × ℕ) Fault}
            (cond t (p (suc n) >>= λ a. behind_commas ks p c a.1 >>= λ r. Ok (a.0 ∷ r.0, r.1)) (Ok ([], n))) (Err (TooDeep q))
            → ((j : ℕ) → from ≤ j → behind_commas ks p c j ≡ Err (TooDeep q) → 64 ≤ q) → 64 ≤ q
        by_test false h go = cc
        by_test true h go =
            far_bind (p (suc n)) _ q h (x.far (suc n) q (omega arith)) (λ a r g.
            (let moved = x.moves (suc n) a r in
            far_bind (behind_commas ks p c a.1) _ q g (go a.1 (omega arith)) (λ b r g. cc)))
