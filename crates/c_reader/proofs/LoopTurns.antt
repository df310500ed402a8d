-- The turns of the loops over items.
use Rattle.std.proofs.Common.{◌≡◌, ℕ, suc, ◌+◌, ◌-◌, ◌<◌, ◌≤◌, Bool, true, false, List, [], ◌∷◌, ◌++◌, map, Result, Ok, Err, refl, sym, ap, ◌∙◌, arith, slice_get, append_assoc, add-one}
use Rattle.c_tree.specs.declared.lexer.tokens.Kind.{Kind}
use Rattle.c_tree.specs.declared.lexer.tokens.Sign.{Sign}
use Rattle.c_tree.specs.declared.lexer.tokens.Sign.TheVariants as s
use Rattle.c_reader.specs.declared.faults.Fault.{Fault}
use Rattle.c_reader.specs.declared.faults.Fault.TheVariants.{Syntax}
use Rattle.c_reader.specs.declared.faults.ReadError.{ReadError}
use Rattle.c_reader.specs.declared.faults.ReadError.TheVariants as errors
use Rattle.c_reader.specs.Descent.{◌>>=◌, Fails, sign_is, sign_at}
use Rattle.c_reader.specs.Rows.{Reader, separated, behind_commas, until, with_front}
use Rattle.std.proofs.lemmas.List.{append-nil}

left_over : (c m : ℕ) → c < m → m - c ≡ suc (m - (c + 1))
left_over c m h = omega arith

map-push : {X A : Type 0} (view : X → A) (xs : List X) (x : X) → map view (xs ++ x ∷ []) ≡ map view xs ++ view x ∷ []
map-push view [] x = refl
map-push view (y ∷ xs) x = ap (λ z. view y ∷ z) (map-push view xs x)

front_one : {A : Type 0} (xs : List A) (a : A) (r : Result (List A × ℕ) Fault) → with_front xs (r >>= λ q. Ok (a ∷ q.0, q.1)) ≡ with_front (xs ++ a ∷ []) r
front_one xs a (Ok q) = ap (λ z. Ok (z, q.1)) (sym (append_assoc xs (a ∷ []) q.0))
front_one xs a (Err e) = refl

module _ {X A : Type 0} (view : X → A) where
  pub push_front : (xs : List X) (x : X) (r : Result (List A × ℕ) Fault) → with_front (map view xs) (r >>= λ q. Ok (view x ∷ q.0, q.1)) ≡ with_front (map view (xs ++ x ∷ [])) r
  push_front xs x r = front_one (map view xs) (view x) r ∙ ap (λ z. with_front z r) (sym (map-push view xs x))

until_step : {A : Type 0} (closes : ℕ → Bool) (p : Reader A) (c n : ℕ) (a : A) (e : ℕ) → closes n ≡ false → p n ≡ Ok (a, e) → until closes p (suc c) n ≡ (until closes p c e >>= λ r. Ok (a ∷ r.0, r.1))
unfolding until
until_step closes p c n a e h r = rw (h, r) refl

until_fail : {A : Type 0} (closes : ℕ → Bool) (p : Reader A) (c n : ℕ) (f : Fault) → closes n ≡ false → p n ≡ Err f → until closes p (suc c) n ≡ Err f
unfolding until
until_fail closes p c n f h r = rw (h, r) refl

until_end : {A : Type 0} (closes : ℕ → Bool) (p : Reader A) (c n : ℕ) → closes n ≡ true → until closes p (suc c) n ≡ Ok ([], n)
unfolding until
until_end closes p c n h = rw h refl

until_none : {A : Type 0} (closes : ℕ → Bool) (p : Reader A) (n : ℕ) → until closes p 0 n ≡ Err (Syntax n)
unfolding until
until_none closes p n = refl

module _ {X A : Type 0} (view : X → A) (closes : ℕ → Bool) (p : Reader A) (m c n : ℕ) (xs : List X) (all : Result (List A × ℕ) Fault)
    (so_far : all ≡ with_front (map view xs) (until closes p (m - c) n)) where
  -- one item more
  pub until_turn : (x : X) (e : ℕ) → c < m → closes n ≡ false → p n ≡ Ok (view x, e) → all ≡ with_front (map view (xs ++ x ∷ [])) (until closes p (m - (c + 1)) e)
  until_turn x e h b r =
      so_far ∙ ap (λ z. with_front (map view xs) (until closes p z n)) (left_over c m h)
      ∙ ap (with_front (map view xs)) (until_step closes p (m - (c + 1)) n (view x) e b r)
      ∙ push_front view xs x (until closes p (m - (c + 1)) e)

  -- an item that isn't read
  pub until_fails : (e : ReadError) → c < m → closes n ≡ false → Fails e (p n) → Fails e all
  until_fails errors.Memory h b r = tt
  until_fails (errors.Fault f) h b r =
      so_far ∙ ap (λ z. with_front (map view xs) (until closes p z n)) (left_over c m h) ∙ ap (with_front (map view xs)) (until_fail closes p (m - (c + 1)) n f b r)

  -- what closes the items
  pub until_ends : c < m → closes n ≡ true → all ≡ Ok (map view xs, n)
  until_ends h b =
      so_far ∙ ap (λ z. with_front (map view xs) (until closes p z n)) (left_over c m h)
      ∙ ap (with_front (map view xs)) (until_end closes p (m - (c + 1)) n b) ∙ ap (λ z. Ok (z, n)) (append-nil (map view xs))

  -- no tokens left
  pub until_over : m ≤ c → all ≡ Err (Syntax n)
  until_over h =
      let none : m - c ≡ 0 = omega arith in
      so_far ∙ ap (λ z. with_front (map view xs) (until closes p z n)) none ∙ ap (with_front (map view xs)) (until_none closes p n)

commas_step : {A : Type 0} (ks : List Kind) (p : Reader A) (c n : ℕ) (a : A) (e : ℕ) → sign_is s.Comma (slice_get ks n) ≡ true
    → p (suc n) ≡ Ok (a, e) → behind_commas ks p (suc c) n ≡ (behind_commas ks p c e >>= λ r. Ok (a ∷ r.0, r.1))
unfolding behind_commas
commas_step ks p c n a e h r = rw (h, r) refl

commas_fail : {A : Type 0} (ks : List Kind) (p : Reader A) (c n : ℕ) (f : Fault) → sign_is s.Comma (slice_get ks n) ≡ true → p (suc n) ≡ Err f → behind_commas ks p (suc c) n ≡ Err f
unfolding behind_commas
commas_fail ks p c n f h r = rw (h, r) refl

commas_end : {A : Type 0} (ks : List Kind) (p : Reader A) (c n : ℕ) → sign_is s.Comma (slice_get ks n) ≡ false → behind_commas ks p (suc c) n ≡ Ok ([], n)
unfolding behind_commas
commas_end ks p c n h = rw h refl

commas_none : {A : Type 0} (ks : List Kind) (p : Reader A) (n : ℕ) → behind_commas ks p 0 n ≡ Err (Syntax n)
unfolding behind_commas
commas_none ks p n = refl

module _ {X A : Type 0} (view : X → A) (ks : List Kind) (p : Reader A) (m c n : ℕ) (xs : List X) (all : Result (List A × ℕ) Fault)
    (so_far : all ≡ with_front (map view xs) (behind_commas ks p (m - c) n)) where
  pub commas_turn : (x : X) (e : ℕ) → c < m → sign_is s.Comma (slice_get ks n) ≡ true → p (n + 1) ≡ Ok (view x, e) → all ≡ with_front (map view (xs ++ x ∷ [])) (behind_commas ks p (m - (c + 1)) e)
  commas_turn x e h b r =
      so_far ∙ ap (λ z. with_front (map view xs) (behind_commas ks p z n)) (left_over c m h)
      ∙ ap (with_front (map view xs)) (commas_step ks p (m - (c + 1)) n (view x) e b (rw (← add-one n) r))
      ∙ push_front view xs x (behind_commas ks p (m - (c + 1)) e)

  pub commas_fails : (e : ReadError) → c < m → sign_is s.Comma (slice_get ks n) ≡ true → Fails e (p (n + 1)) → Fails e all
  commas_fails errors.Memory h b r = tt
  commas_fails (errors.Fault f) h b r =
      so_far ∙ ap (λ z. with_front (map view xs) (behind_commas ks p z n)) (left_over c m h) ∙ ap (with_front (map view xs)) (commas_fail ks p (m - (c + 1)) n f b (rw (← add-one n) r))

  pub commas_ends : c < m → sign_is s.Comma (slice_get ks n) ≡ false → all ≡ Ok (map view xs, n)
  commas_ends h b =
      so_far ∙ ap (λ z. with_front (map view xs) (behind_commas ks p z n)) (left_over c m h)
      ∙ ap (with_front (map view xs)) (commas_end ks p (m - (c + 1)) n b) ∙ ap (λ z. Ok (z, n)) (append-nil (map view xs))

  pub commas_over : m ≤ c → all ≡ Err (Syntax n)
  commas_over h =
      let none : m - c ≡ 0 = omega arith in
      so_far ∙ ap (λ z. with_front (map view xs) (behind_commas ks p z n)) none ∙ ap (with_front (map view xs)) (commas_none ks p n)

separated_step : {A : Type 0} (ks : List Kind) (p : Reader A) (last : Sign) (c n : ℕ) (a : A) (e : ℕ) → p n ≡ Ok (a, e)
    → sign_is s.Comma (slice_get ks e) ≡ true → separated ks p last (suc c) n ≡ (separated ks p last c (suc e) >>= λ r. Ok (a ∷ r.0, r.1))
unfolding separated
separated_step ks p last c n a e r h = rw (r, h) refl

separated_close : {A : Type 0} (ks : List Kind) (p : Reader A) (last : Sign) (c n : ℕ) (a : A) (e : ℕ) → p n ≡ Ok (a, e)
    → sign_is s.Comma (slice_get ks e) ≡ false → separated ks p last (suc c) n ≡ (sign_at ks last e >>= λ i. Ok (a ∷ [], i))
unfolding separated
separated_close ks p last c n a e r h = rw (r, h) refl

separated_fail : {A : Type 0} (ks : List Kind) (p : Reader A) (last : Sign) (c n : ℕ) (f : Fault) → p n ≡ Err f → separated ks p last (suc c) n ≡ Err f
unfolding separated
separated_fail ks p last c n f r = rw r refl

separated_none : {A : Type 0} (ks : List Kind) (p : Reader A) (last : Sign) (n : ℕ) → separated ks p last 0 n ≡ Err (Syntax n)
unfolding separated
separated_none ks p last n = refl

module _ {X A : Type 0} (view : X → A) (ks : List Kind) (p : Reader A) (last : Sign) (m c n : ℕ) (xs : List X)
    (all : Result (List A × ℕ) Fault) (so_far : all ≡ with_front (map view xs) (separated ks p last (m - c) n)) where
  pub separated_turn : (x : X) (e : ℕ) → c < m → p n ≡ Ok (view x, e) → sign_is s.Comma (slice_get ks e) ≡ true → all ≡ with_front (map view (xs ++ x ∷ [])) (separated ks p last (m - (c + 1)) (e + 1))
  separated_turn x e h r b =
      so_far ∙ ap (λ z. with_front (map view xs) (separated ks p last z n)) (left_over c m h)
      ∙ ap (with_front (map view xs)) (separated_step ks p last (m - (c + 1)) n (view x) e r b)
      ∙ push_front view xs x (separated ks p last (m - (c + 1)) (suc e))
      ∙ ap (λ z. with_front (map view (xs ++ x ∷ [])) (separated ks p last (m - (c + 1)) z)) (sym (add-one e))

  pub separated_fails : (e : ReadError) → c < m → Fails e (p n) → Fails e all
  separated_fails errors.Memory h r = tt
  separated_fails (errors.Fault f) h r =
      so_far ∙ ap (λ z. with_front (map view xs) (separated ks p last z n)) (left_over c m h) ∙ ap (with_front (map view xs)) (separated_fail ks p last (m - (c + 1)) n f r)

  pub separated_ends : (x : X) (e i : ℕ) → c < m → p n ≡ Ok (view x, e) → sign_is s.Comma (slice_get ks e) ≡ false → sign_at ks last e ≡ Ok i → all ≡ Ok (map view (xs ++ x ∷ []), i)
  separated_ends x e i h r b t =
      so_far ∙ ap (λ z. with_front (map view xs) (separated ks p last z n)) (left_over c m h)
      ∙ ap (with_front (map view xs)) (separated_close ks p last (m - (c + 1)) n (view x) e r b)
      ∙ rw t (ap (λ z. Ok (z, i)) (sym (map-push view xs x)))

  pub separated_stops : (x : X) (e : ℕ) (f : ReadError) → c < m → p n ≡ Ok (view x, e) → sign_is s.Comma (slice_get ks e) ≡ false → Fails f (sign_at ks last e) → Fails f all
  separated_stops x e errors.Memory h r b t = tt
  separated_stops x e (errors.Fault f) h r b t =
      so_far ∙ ap (λ z. with_front (map view xs) (separated ks p last z n)) (left_over c m h) ∙ ap (with_front (map view xs)) (separated_close ks p last (m - (c + 1)) n (view x) e r b) ∙ rw t refl

  pub separated_over : m ≤ c → all ≡ Err (Syntax n)
  separated_over h =
      let none : m - c ≡ 0 = omega arith in
      so_far ∙ ap (λ z. with_front (map view xs) (separated ks p last z n)) none ∙ ap (with_front (map view xs)) (separated_none ks p last n)
