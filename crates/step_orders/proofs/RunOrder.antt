-- The pieces of a rank's elements in order are its runs.
use Rattle.std.proofs.Common.{◌≡◌, ℕ, zero, suc, ◌<◌, ◌≤◌, ◌+◌, ◌*◌, ◌/◌, refl, sym, ap, ◌∙◌, arith, Bool, true, false, cond, List, [], ◌∷◌, length, get_or}
use Rattle.std.specs.Prelude.{◌==◌, ◌&&◌}
use Rattle.std.proofs.lemmas.Bool.{eq-eqb, ne_eqb, eqb-true, and_parts, and_from}
use Rattle.std.proofs.Math.Nat.{div-lt_iff_lt-mul}
use Rattle.schedule_steps.specs.Outline.{Outline, runs}
use Rattle.schedule_steps.specs.Drawn.{numbers}
use Rattle.schedule_steps.specs.Standard.{above, blocks, one_if, tally, is_member, group_of}
use Rattle.step_orders.specs.ElementRuns.{joined, unless_empty, run_of, block_runs, runs_of}
use Rattle.step_orders.specs.Order.{gathered, elements_of, IsColoured}
use Rattle.step_orders.specs.Pieces.{is_alike, pieces_from}
use Rattle.step_orders.proofs.Flat.{below_above}
use Rattle.step_orders.proofs.Windows.{group_windows, length_numbers}
use Rattle.step_orders.proofs.KeyPieces.{Each, each_append, each_as, each_gathered, joined_same, by_keys, windows_of}

each_number : (P : ℕ → Type 0) (s : ℕ → Bool) (n : ℕ) → ((x : ℕ) → x < n → s x ≡ true → P x) → Each P (numbers s n)
each_number P s zero h = tt
each_number P s (suc n) h =
    each_append P (numbers s n) (cond (s n) (n ∷ []) []) (each_number P s n (λ x lt e. h x (omega arith) e)) (by (s n) refl)
  where
    by : (b : Bool) → s n ≡ b → Each P (cond b (n ∷ []) [])
    by true e = (h n (omega arith) e, tt)
    by false e = tt

-- so many numbers where each has a lower count before it
few : (s : ℕ → Bool) (n l : ℕ) → ((x : ℕ) → x < n → s x ≡ true → tally s x < l) → tally s n ≤ l
few s zero l h = omega arith
few s (suc n) l h = by (few s n l (λ x lt e. h x (omega arith) e)) (s n) refl
  where
    by : tally s n ≤ l → (b : Bool) → s n ≡ b → tally s n + one_if b ≤ l
    by le true e = let lt : tally s n < l = h n (omega arith) e in omega arith
    by le false e = omega arith

-- two elements of these go together where they are of one block and colour
pub record GoWithin (o : Outline) (k r : ℕ) (t : ℕ → ℕ → Bool) : Type 0 where
  pub same : (x y : ℕ) → x < o.count k r → y < o.count k r → o.block k r x ≡ o.block k r y → o.colour k r x ≡ o.colour k r y → t x y ≡ true
  pub blocks : (x y : ℕ) → x < o.count k r → y < o.count k r → (o.block k r x ≡ o.block k r y → ⊥) → t x y ≡ false
  pub colours : (x y : ℕ) → x < o.count k r → y < o.count k r → (o.colour k r x ≡ o.colour k r y → ⊥) → t x y ≡ false

module _ (o : Outline) (g k r : ℕ) (t : ℕ → ℕ → Bool) (pos : 0 < g) (h : GoWithin o k r t) where
  abbrev inside : ℕ → Type 0
  inside x = x < o.count k r

  abbrev in_block : ℕ → ℕ → Type 0
  in_block b x = inside x × (o.block k r x ≡ b)

  abbrev in_class : ℕ → ℕ → ℕ → Type 0
  in_class b c x = in_block b x × (o.colour k r x ≡ c)

  member : (b c x : ℕ) → is_member o k r b c x ≡ true → (o.block k r x ≡ b) × (o.colour k r x ≡ c)
  member b c x e =
      let p : (runs o k r x ≡ true) × (((o.block k r x == b) && (o.colour k r x == c)) ≡ true) = and_parts (runs o k r x) ((o.block k r x == b) && (o.colour k r x == c)) e in
      let q : ((o.block k r x == b) ≡ true) × ((o.colour k r x == c) ≡ true) = and_parts (o.block k r x == b) (o.colour k r x == c) p.1 in
      (eqb-true (o.block k r x) b q.0, eqb-true (o.colour k r x) c q.1)

  abbrev class : ℕ → ℕ → List ℕ
  class b c = numbers (is_member o k r b c) (o.count k r)

  in_classes : (b c : ℕ) → Each (in_class b c) (class b c)
  in_classes b c = each_number (in_class b c) (is_member o k r b c) (o.count k r) (λ x lt e. ((lt, (member b c x e).0), (member b c x e).1))

  abbrev groups : ℕ
  groups = above (group_of o g k r) (o.count k r)

  -- there are groups enough
  enough : (b c : ℕ) → length (class b c) ≤ groups * g
  enough b c = rw (length_numbers (is_member o k r b c) (o.count k r)) (few (is_member o k r b c) (o.count k r) (groups * g) before)
    where
      before : (x : ℕ) → x < o.count k r → is_member o k r b c x ≡ true → tally (is_member o k r b c) x < groups * g
      before x lt e = (div-lt_iff_lt-mul {k = g} {x = tally (is_member o k r b c) x} {y = groups} pos).0 (rw (← own) (below_above (group_of o g k r) (o.count k r) x lt))
        where
          own : group_of o g k r x ≡ tally (is_member o k r b c) x / g
          own = ap (λ z. tally (is_member o k r z (o.colour k r x)) x / g) (member b c x e).0 ∙ ap (λ z. tally (is_member o k r b z) x / g) (member b c x e).1

  class_runs : (b c : ℕ) → pieces_from t g [] (class b c) ≡ joined (run_of o g k r b c) groups
  class_runs b c =
      windows_of t g (in_class b c)
      (λ x y p q. h.same x y p.0.0 q.0.0 (p.0.1 ∙ sym q.0.1) (p.1 ∙ sym q.1))
      pos (class b c) groups (enough b c) (in_classes b c)
      ∙ joined_same _ (run_of o g k r b c) groups (λ j. ap (λ z. unless_empty z) (sym (group_windows o g k r b c j (o.count k r) pos)))

  abbrev colour_count : ℕ
  colour_count = above (o.colour k r) (o.count k r)

  abbrev block_elements : ℕ → List ℕ
  block_elements b = gathered (class b) colour_count

  of_block : (b : ℕ) → pieces_from t g [] (block_elements b) ≡ block_runs o g k r b
  of_block b =
      by_keys t g (in_block b) (o.colour k r) (class b) (λ c. joined (run_of o g k r b c) groups) colour_count
      (λ x y p q ne. h.colours x y p.0 q.0 ne) (in_classes b) (class_runs b)

  in_blocks : (b : ℕ) → Each (in_block b) (block_elements b)
  in_blocks b = each_gathered (in_block b) (class b) colour_count (λ c lt. each_as (in_class b c) (in_block b) (class b c) (λ x p. p.0) (in_classes b c))

  abbrev coloured : ℕ → ℕ → Type 0
  coloured v x = inside x × (o.block_colour k r (o.block k r x) ≡ v)

  abbrev chosen : ℕ → ℕ → List ℕ
  chosen v b = cond (o.block_colour k r b == v) (block_elements b) []

  abbrev chosen_runs : ℕ → ℕ → List (List ℕ)
  chosen_runs v b = cond (o.block_colour k r b == v) (block_runs o g k r b) []

  in_chosen : (v b : ℕ) → Each (λ x. coloured v x × (o.block k r x ≡ b)) (chosen v b)
  in_chosen v b = by (o.block_colour k r b == v) refl
    where
      by : (w : Bool) → (o.block_colour k r b == v) ≡ w → Each (λ x. coloured v x × (o.block k r x ≡ b)) (cond w (block_elements b) [])
      by true e = each_as (in_block b) (λ x. coloured v x × (o.block k r x ≡ b)) (block_elements b)
          (λ x p. ((p.0, ap (o.block_colour k r) p.1 ∙ eqb-true (o.block_colour k r b) v e), p.1)) (in_blocks b)
      by false e = tt

  of_chosen : (v b : ℕ) → pieces_from t g [] (chosen v b) ≡ chosen_runs v b
  of_chosen v b = by (o.block_colour k r b == v)
    where
      by : (w : Bool) → pieces_from t g [] (cond w (block_elements b) []) ≡ cond w (block_runs o g k r b) []
      by true = of_block b
      by false = refl

  of_colour : (v : ℕ) → pieces_from t g [] (gathered (chosen v) (blocks o k r)) ≡ joined (chosen_runs v) (blocks o k r)
  of_colour v =
      by_keys t g (coloured v) (o.block k r) (chosen v) (chosen_runs v) (blocks o k r)
      (λ x y p q ne. h.blocks x y p.0 q.0 ne) (in_chosen v) (of_chosen v)

  pub pieces_are_runs : pieces_from t g [] (elements_of o k r) ≡ runs_of o g k r
  pieces_are_runs =
      by_keys t g inside (λ x. o.block_colour k r (o.block k r x)) (λ v. gathered (chosen v) (blocks o k r)) (λ v. joined (chosen_runs v) (blocks o k r))
      (above (o.block_colour k r) (blocks o k r))
      (λ x y p q ne. h.blocks x y p q (λ e. ne (ap (o.block_colour k r) e)))
      (λ v. each_gathered (coloured v) (chosen v) (blocks o k r) (λ b lt. each_as (λ x. coloured v x × (o.block k r x ≡ b)) (coloured v) (chosen v b) (λ x p. p.0) (in_chosen v b)))
      of_colour

-- places go together by their blocks and colours
pub alike_within : (o : Outline) (k r size : ℕ) (block_colours colours : List ℕ) → IsColoured o k r size block_colours colours → GoWithin o k r (is_alike size colours)
alike_within o k r size block_colours colours h = record {
  same = λ x y lx ly b c. and_from (x / size == y / size) (get_or colours x 0 == get_or colours y 0)
      (eq-eqb (x / size) (y / size) (sym (h.block x (inside x lx)) ∙ (b ∙ h.block y (inside y ly))))
      (eq-eqb (get_or colours x 0) (get_or colours y 0) (sym (h.colour x (inside x lx)) ∙ (c ∙ h.colour y (inside y ly))));
  blocks = λ x y lx ly ne. ap (λ b. b && (get_or colours x 0 == get_or colours y 0))
      (ne_eqb (x / size) (y / size) (λ e. ne (h.block x (inside x lx) ∙ (e ∙ sym (h.block y (inside y ly))))));
  colours = λ x y lx ly ne. no (x / size == y / size) (get_or colours x 0 == get_or colours y 0)
      (ne_eqb (get_or colours x 0) (get_or colours y 0) (λ e. ne (h.colour x (inside x lx) ∙ (e ∙ sym (h.colour y (inside y ly))))));
}
  where
    inside : (x : ℕ) → x < o.count k r → x < length colours
    inside x lt = rw (← h.count) lt

    no : (a b : Bool) → b ≡ false → (a && b) ≡ false
    no true b e = e
    no false b e = refl
