-- Lists of scalars, put together and made of numbers.
use Rattle.std.proofs.Common.{◌≡◌, ◌<◌, ◌≤◌, ◌+◌, ℕ, zero, suc, Bool, true, false, List, [], ◌∷◌, ◌++◌, map, refl, sym, ap, ap₂, ◌∙◌, ⊎_elim, arith, append_assoc}
use Rattle.std.specs.Prelude.{◌||◌, ◌==◌}
use Rattle.std.specs.List.{range_with_len}
use Rattle.std.proofs.lemmas.Bool.{cases_lt, or_left, or_right, eq-eqb}
use Rattle.std.proofs.lemmas.List.FromFn.{map-range_with_len_more}
use Rattle.schedule_model.specs.Cells.{Cell, Variable, VarCell}
use Rattle.schedule_model.specs.Scatter.{Once}
use Rattle.bound_program.specs.Values.{BoundValue}
use Rattle.run_model.specs.Windows.{Whole, cell_in}
use Rattle.rank_state.specs.declared.scalars.Scalar.{Scalar}
use Rattle.rank_state.specs.declared.scalars.Scalar.TheVariants.{Amount}
use Rattle.rank_state.specs.declared.scalars.Operation.{Operation}
use Rattle.rank_state.specs.Windows.{index, scalar_cells, is_slot, has_slot}
use Rattle.rank_state.specs.Joins.{has_index}
use Rattle.rank_layout.specs.Made.{IsSiteScalar, EachIsScalar}

-- ---- one behind another

regroup : (a b c : Bool) → (a || (b || c)) ≡ ((a || b) || c)
regroup true b c = refl
regroup false b c = refl

pub scalar_cells_append : (at : ℕ → VarCell) (xs ys : List Scalar) → scalar_cells at (xs ++ ys) ≡ scalar_cells at xs ++ scalar_cells at ys
scalar_cells_append at [] ys = refl
scalar_cells_append at (x ∷ xs) ys = ap (λ z. Variable (at (index x)) ∷ z) (scalar_cells_append at xs ys)

pub each_append : (b : BoundValue) (s : ℕ) (xs ys : List Scalar) → EachIsScalar b s xs → EachIsScalar b s ys → EachIsScalar b s (xs ++ ys)
each_append b s [] ys h g = g
each_append b s (x ∷ xs) ys h g = (h.0, each_append b s xs ys h.1 g)

has_slot_append : (i : ℕ) (xs ys : List Scalar) → has_slot i (xs ++ ys) ≡ (has_slot i xs || has_slot i ys)
has_slot_append i [] ys = refl
has_slot_append i (x ∷ xs) ys = ap (λ z. is_slot i x || z) (has_slot_append i xs ys) ∙ regroup (is_slot i x) (has_slot i xs) (has_slot i ys)

pub slot_left : (i : ℕ) (xs ys : List Scalar) → has_slot i xs ≡ true → has_slot i (xs ++ ys) ≡ true
slot_left i xs ys h = has_slot_append i xs ys ∙ or_left (has_slot i xs) (has_slot i ys) h

pub slot_right : (i : ℕ) (xs ys : List Scalar) → has_slot i ys ≡ true → has_slot i (xs ++ ys) ≡ true
slot_right i xs ys h = has_slot_append i xs ys ∙ or_right (has_slot i xs) (has_slot i ys) h

has_index_append : (i : ℕ) (xs ys : List Scalar) → has_index i (xs ++ ys) ≡ (has_index i xs || has_index i ys)
has_index_append i [] ys = refl
has_index_append i (x ∷ xs) ys = ap (λ z. (i == index x) || z) (has_index_append i xs ys) ∙ regroup (i == index x) (has_index i xs) (has_index i ys)

pub index_left : (i : ℕ) (xs ys : List Scalar) → has_index i xs ≡ true → has_index i (xs ++ ys) ≡ true
index_left i xs ys h = has_index_append i xs ys ∙ or_left (has_index i xs) (has_index i ys) h

pub index_right : (i : ℕ) (xs ys : List Scalar) → has_index i ys ≡ true → has_index i (xs ++ ys) ≡ true
index_right i xs ys h = has_index_append i xs ys ∙ or_right (has_index i xs) (has_index i ys) h

-- ---- of the numbers from a on

-- one more behind others
pub range_more : {X : Type 0} (f : ℕ → X) (old now new : List X) (i : ℕ) (x : X) → now ≡ old ++ map f (range_with_len 0 i) → x ≡ f i → new ≡ now ++ x ∷ []
    → new ≡ old ++ map f (range_with_len 0 (i + 1))
range_more f old now new i x is e more =
    more ∙ ap (λ z. z ++ x ∷ []) is ∙ append_assoc old (map f (range_with_len 0 i)) (x ∷ []) ∙ ap (λ z. old ++ (map f (range_with_len 0 i) ++ z ∷ [])) e
    ∙ ap (λ z. old ++ z) (sym (map-range_with_len_more f 0 i i (omega arith)))

pub each_range : (b : BoundValue) (s : ℕ) (f : ℕ → Scalar) (a n : ℕ) → ((i : ℕ) → a ≤ i → i < a + n → IsSiteScalar b s (f i))
    → EachIsScalar b s (map f (range_with_len a n))
each_range b s f a zero h = tt
each_range b s f a (suc n) h = (h a (omega arith) (omega arith), each_range b s f (a + 1) n (λ i l r. h i (omega (arith, l)) (omega (arith, r))))

pub cells_range : (at : ℕ → VarCell) (v : ℕ) (f : ℕ → Scalar) (a n : ℕ)
    → ((i : ℕ) → a ≤ i → i < a + n → at (index (f i)) ≡ record { variable = v; component = i })
    → scalar_cells at (map f (range_with_len a n)) ≡ map (cell_in (Whole v)) (range_with_len a n)
cells_range at v f a zero h = refl
cells_range at v f a (suc n) h =
    ap₂ (λ c cs. c ∷ cs) (ap Variable (h a (omega arith) (omega arith)))
    (cells_range at v f (a + 1) n (λ i l r. h i (omega (arith, l)) (omega (arith, r))))

pub slot_range : (f : ℕ → ℕ) (base : ℕ) (how : Operation) (a n i : ℕ) → a ≤ i → i < a + n
    → has_slot (base + i) (map (λ k. Amount (f k) (base + k) how) (range_with_len a n)) ≡ true
slot_range f base how a zero i l r = absurd (omega arith)
slot_range f base how a (suc n) i l r = ⊎_elim
    (λ (h : a < i). or_right (base + i == base + a) (has_slot (base + i) (map (λ k. Amount (f k) (base + k) how) (range_with_len (a + 1) n)))
    (slot_range f base how (a + 1) n i (omega (arith, h)) (omega (arith, r))))
    (λ (h : i ≤ a). or_left (base + i == base + a) (has_slot (base + i) (map (λ k. Amount (f k) (base + k) how) (range_with_len (a + 1) n)))
    (eq-eqb (base + i) (base + a) (omega (arith, l, h))))
    (cases_lt a i)

pub index_range : (f : ℕ → Scalar) (from a n i : ℕ) → ((k : ℕ) → index (f k) ≡ from + k) → a ≤ i → i < a + n
    → has_index (from + i) (map f (range_with_len a n)) ≡ true
index_range f from a zero i at l r = absurd (omega arith)
index_range f from a (suc n) i at l r = ⊎_elim
    (λ (h : a < i). or_right (from + i == index (f a)) (has_index (from + i) (map f (range_with_len (a + 1) n)))
    (index_range f from (a + 1) n i at (omega (arith, h)) (omega (arith, r))))
    (λ (h : i ≤ a). or_left (from + i == index (f a)) (has_index (from + i) (map f (range_with_len (a + 1) n)))
    (eq-eqb (from + i) (index (f a)) (let e = at a in omega (arith, l, h, e))))
    (cases_lt a i)

-- ---- cells that stand once

pub once_right : (xs ys : List Cell) → Once (xs ++ ys) → Once ys
once_right [] ys h = h
once_right (x ∷ xs) ys h = once_right xs ys h.1
