-- A rank's places block by block, the blocks by their colours.
use Rattle.std.proofs.Common.{◌≡◌, ℕ, zero, suc, ◌<◌, ◌≤◌, ◌+◌, ◌*◌, ◌/◌, refl, sym, ap, subst, ◌∙◌, arith, add-one, ⊎_elim, Bool, true, false, cond, List, [], ◌∷◌, ◌++◌, append-nil, get_or, length, max}
use Rattle.std.specs.Prelude.{◌==◌, ◌&&◌}
use Rattle.std.specs.List.{filter, All, flat_map}
use Rattle.std.proofs.Math.Nat.{div-lt_iff_lt-mul, suc-mul}
use Rattle.std.proofs.lemmas.Bool.{cases_eq, ne_eqb}
use Rattle.std.proofs.lemmas.Grind.{flat_map-append}
use Rattle.std.proofs.lemmas.List.Elements.{filter-append, All-append}
use Rattle.std.proofs.lemmas.Nat.{le-div}
use Rattle.schedule_steps.specs.Outline.{Outline}
use Rattle.schedule_steps.specs.Drawn.{numbers}
use Rattle.schedule_steps.specs.Standard.{above, is_member, blocks}
use Rattle.step_orders.specs.Order.{gathered, by_key, elements_of, IsColoured}
use Rattle.step_orders.proofs.Flat.{gathered_same, filter_numbers, numbers_same, below_above}

-- ---- numbers

-- what doesn't pass adds nothing
pub numbers_stay : (p : ℕ → Bool) (n m : ℕ) → n ≤ m → ((x : ℕ) → n ≤ x → x < m → p x ≡ false) → numbers p m ≡ numbers p n
numbers_stay p n zero le h = let e : n ≡ 0 = omega arith in sym (ap (numbers p) e)
numbers_stay p n (suc m) le h = ⊎_elim
    (λ (e : n ≡ suc m). sym (ap (numbers p) e))
    (λ (ne : n ≡ suc m → ⊥). let less : n ≤ m = omega (arith, le, ne) in
    ap (λ b. numbers p m ++ cond b (m ∷ []) []) (h m less (omega arith))
    ∙ (append-nil (numbers p m) ∙ numbers_stay p n m less (λ x a b. h x a (omega (arith, b)))))
    (cases_eq n (suc m))

-- what holds of all numbers below the limit holds of those
pub all_numbers : (P : ℕ → Type 0) (p : ℕ → Bool) (n : ℕ) → ((x : ℕ) → x < n → P x) → All P (numbers p n)
all_numbers P p zero h = λ i d lt. absurd (omega (arith, lt))
all_numbers P p (suc n) h =
    All-append P (numbers p n) (cond (p n) (n ∷ []) []) (all_numbers P p n (λ x lt. h x (omega (arith, lt)))) (one (p n))
  where
    one : (b : Bool) → All P (cond b (n ∷ []) [])
    one true = λ i d lt. let e : i ≡ 0 = omega (arith, lt) in subst (λ j. P (get_or (n ∷ []) j d)) (sym e) (h n (omega arith))
    one false = λ i d lt. absurd (omega (arith, lt))

-- ---- the places of a block

module _ (s b : ℕ) (some : 0 < s) where
  pub before_block : (x : ℕ) → x < b * s → (x / s == b) ≡ false
  before_block x lt =
      let most : x / s < b = (div-lt_iff_lt-mul some).1 lt in
      ne_eqb (x / s) b (λ e. omega (arith, most, e))

  pub after_block : (x : ℕ) → b * s + s ≤ x → (x / s == b) ≡ false
  after_block x le =
      let least : suc b ≤ x / s = le-div (suc b) x s some (subst (λ n. n ≤ x) (sym (suc-mul b s)) le) in
      ne_eqb (x / s) b (λ e. omega (arith, least, e))

-- ---- how many blocks there are

above_same : (f g : ℕ → ℕ) (n : ℕ) → ((x : ℕ) → x < n → f x ≡ g x) → above f n ≡ above g n
above_same f g zero h = refl
above_same f g (suc n) h =
    ap (λ a. max a (suc (f n))) (above_same f g n (λ x lt. h x (omega (arith, lt))))
    ∙ ap (λ v. max (above g n) (suc v)) (h n (omega arith))

above_few : (f : ℕ → ℕ) (m n : ℕ) → ((x : ℕ) → x < n → f x < m) → above f n ≤ m
above_few f m zero h = omega arith
above_few f m (suc n) h =
    let rest : above f n ≤ m = above_few f m n (λ x lt. h x (omega (arith, lt))) in
    let last : f n < m = h n (omega arith) in
    omega (arith, rest, last)

above_div : (s n : ℕ) → 0 < s → above (λ x. x / s) (suc n) ≡ n / s + 1
above_div s n some =
    let last : n < suc (n / s) * s = (div-lt_iff_lt-mul some).0 (omega arith) in
    let few : above (λ x. x / s) n ≤ suc (n / s) =
    above_few (λ x. x / s) (suc (n / s)) n (λ x lt. (div-lt_iff_lt-mul some).1 (omega (arith, lt, last))) in
    omega (arith, few)

-- ---- block by block

module _ (f : ℕ → List ℕ) where
  flat_gathered : (p : ℕ → List ℕ) (n : ℕ) → flat_map f (gathered p n) ≡ gathered (λ i. flat_map f (p i)) n
  flat_gathered p zero = refl
  flat_gathered p (suc n) = flat_map-append f (gathered p n) (p n) ∙ ap (λ z. z ++ flat_map f (p n)) (flat_gathered p n)

  flat_passing : (t : ℕ → Bool) (n : ℕ) → flat_map f (filter t (numbers (λ x. true) n)) ≡ gathered (λ b. cond (t b) (f b) []) n
  flat_passing t zero = refl
  flat_passing t (suc n) =
      ap (flat_map f) (filter-append t (numbers (λ x. true) n) (n ∷ []))
      ∙ (flat_map-append f (filter t (numbers (λ x. true) n)) (filter t (n ∷ []))
      ∙ (ap (λ z. z ++ flat_map f (filter t (n ∷ []))) (flat_passing t n)
      ∙ ap (λ z. gathered (λ b. cond (t b) (f b) []) n ++ z) (one (t n))))
    where
      one : (b : Bool) → flat_map f (cond b (n ∷ []) []) ≡ cond b (f n) []
      one true = append-nil (f n)
      one false = refl

  -- the blocks by their colours
  flat_by_key : (h : ℕ → ℕ) (hs n : ℕ)
      → flat_map f (by_key h hs (numbers (λ x. true) n)) ≡ gathered (λ v. gathered (λ b. cond (h b == v) (f b) []) n) hs
  flat_by_key h hs n =
      flat_gathered (λ v. filter (λ x. h x == v) (numbers (λ x. true) n)) hs
      ∙ gathered_same _ _ hs (λ v. flat_passing (λ x. h x == v) n)

-- the places of a block by colour
abbrev pub block_by_colour : List ℕ → ℕ → ℕ → ℕ → List ℕ
block_by_colour colours s n b = by_key (λ x. get_or colours x 0) n (numbers (λ x. x / s == b) (length colours))

module _ (o : Outline) (k r s : ℕ) (block_colours colours : List ℕ) (h : IsColoured o k r s block_colours colours) (some : 0 < s) where
  within : (x : ℕ) → x < length colours → x < o.count k r
  within x lt = let e = h.count in omega (arith, e, lt)

  -- colours are below the limit
  pub colour_below : (x : ℕ) → x < length colours → get_or colours x 0 < above (o.colour k r) (o.count k r)
  colour_below x lt =
      subst (λ v. v < above (o.colour k r) (o.count k r)) (h.colour x lt) (below_above (o.colour k r) (o.count k r) x (within x lt))

  -- colours of blocks are below theirs
  pub block_colour_below : (b : ℕ) → b < blocks o k r → get_or block_colours b 0 < above (o.block_colour k r) (blocks o k r)
  block_colour_below b lt =
      subst (λ v. v < above (o.block_colour k r) (blocks o k r)) (h.block_colour b) (below_above (o.block_colour k r) (blocks o k r) b lt)

  -- so many blocks there are
  blocks_div : blocks o k r ≡ above (λ x. x / s) (length colours)
  blocks_div =
      ap (above (o.block k r)) h.count
      ∙ above_same (o.block k r) (λ x. x / s) (length colours) h.block

  pub blocks_are : (m : ℕ) → (length colours ≡ 0 → m ≡ 0) → ((n : ℕ) → length colours ≡ n + 1 → m ≡ n / s + 1) → m ≡ blocks o k r
  blocks_are m none each = by (length colours) refl
    where
      by : (n : ℕ) → length colours ≡ n → m ≡ blocks o k r
      by zero e = none e ∙ sym (blocks_div ∙ ap (above (λ x. x / s)) e)
      by (suc n) e = each n (e ∙ sym (add-one n)) ∙ sym (blocks_div ∙ (ap (above (λ x. x / s)) e ∙ above_div s n some))

  block_is : (b cs : ℕ) → block_by_colour colours s cs b ≡ gathered (λ c. numbers (is_member o k r b c) (o.count k r)) cs
  block_is b cs = gathered_same _ _ cs (λ c.
      filter_numbers (λ x. get_or colours x 0 == c) (λ x. x / s == b) (length colours)
      ∙ (numbers_same _ (is_member o k r b c) (length colours) (λ x lt.
      ap (λ v. (v == b) && (get_or colours x 0 == c)) (sym (h.block x lt))
      ∙ (ap (λ v. (o.block k r x == b) && (v == c)) (sym (h.colour x lt))
      ∙ sym (ap (λ v. v && ((o.block k r x == b) && (o.colour k r x == c))) (h.runs x lt))))
      ∙ ap (numbers (is_member o k r b c)) (sym h.count)))

  -- the blocks by their colours, and in each its places by colour
  pub block_by_block :
      flat_map (block_by_colour colours s (above (o.colour k r) (o.count k r)))
      (by_key (λ b. get_or block_colours b 0) (above (o.block_colour k r) (blocks o k r)) (numbers (λ b. true) (blocks o k r)))
      ≡ elements_of o k r
  block_by_block =
      flat_by_key (block_by_colour colours s (above (o.colour k r) (o.count k r))) (λ b. get_or block_colours b 0)
      (above (o.block_colour k r) (blocks o k r)) (blocks o k r)
      ∙ gathered_same _ _ (above (o.block_colour k r) (blocks o k r)) (λ v. gathered_same _ _ (blocks o k r) (λ b.
      ap (λ u. cond (u == v) (block_by_colour colours s (above (o.colour k r) (o.count k r)) b) []) (sym (h.block_colour b))
      ∙ ap (λ z. cond (o.block_colour k r b == v) z []) (block_is b (above (o.colour k r) (o.count k r)))))
