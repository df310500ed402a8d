-- Lists by number, and vectors of given items.
use Rattle.std.proofs.Common.{◌≡◌, ℕ, ◌<◌, ◌≤◌, ◌^◌, ◌⊎◌, inl, inr, List, [], map, length, get_or, refl, ap, ◌∙◌, arith, Vec, Global}
use Rattle.std.proofs.lemmas.Bool.{cases_lt}
use Rattle.std.proofs.lemmas.List.{get_or-map}
use Rattle.std.specs.List.{range_with_len}
use Rattle.std.proofs.lemmas.List.FromFn.{length-map-range_with_len, get_or-map-range_with_len}
use denote.RawPtr.{null_ptr}
use Rattle.lemmas.specs.Below.{row, rows}

-- ---- lists

-- f 0, f 1, .. below n
pub table : {X : Type 0} → ℕ → (ℕ → X) → List X
table n f = map f (range_with_len 0 n)

pub length_table : {X : Type 0} (n : ℕ) (f : ℕ → X) → length (table n f) ≡ n
unfolding table
length_table n f = length-map-range_with_len f 0 n

pub table_at : {X : Type 0} (n : ℕ) (f : ℕ → X) (k : ℕ) (d : X) → k < n → get_or (table n f) k d ≡ f k
unfolding table
table_at n f k d l = get_or-map-range_with_len f 0 n k k d l (omega arith)

-- what a function gives for what stands at place k
pub mapped_at : {X Y : Type 0} (n : ℕ) (f : ℕ → X) (h : X → Y) (k : ℕ) (d : Y) → k < n → get_or (map h (table n f)) k d ≡ h (f k)
mapped_at n f h k d l = get_or-map h (table n f) k (f k) d (let e = length_table n f in omega arith) ∙ ap h (table_at n f k (f k) l)

-- ---- vectors

global : Global
global = record { memory = record { seal = tt } }

-- a vector that lies nowhere
at_nowhere : {X : Type 0} (xs : List X) → (length xs < 2 ^ 63) ⊎ (2 ^ 63 ≤ length xs) → Vec X Global
at_nowhere xs (inl small) = record { ptr = null_ptr; len = length xs; cap = length xs; alloc = global; items = xs; ok = (refl, omega arith); small = small }
at_nowhere xs (inr large) = record { ptr = null_ptr; len = 0; cap = 0; alloc = global; items = []; ok = (refl, omega arith); small = omega arith }

-- the vector of these items, where memory can have so many
pub vec_of : {X : Type 0} → List X → Vec X Global
vec_of xs = at_nowhere xs (cases_lt (length xs) (2 ^ 63))

pub items_are : {X : Type 0} (xs : List X) → length xs < 2 ^ 63 → (vec_of xs).items ≡ xs
unfolding vec_of at_nowhere
items_are xs small = by_size (cases_lt (length xs) (2 ^ 63))
  where
    by_size : (d : (length xs < 2 ^ 63) ⊎ (2 ^ 63 ≤ length xs)) → (at_nowhere xs d).items ≡ xs
    by_size (inl l) = refl
    by_size (inr l) = absurd (omega arith)

-- ---- lists of vectors

pub row_is : (n : ℕ) (f : ℕ → List ℕ) (k : ℕ) → k < n → length (f k) < 2 ^ 63 → row (table n (λ r. vec_of (f r))) k ≡ f k
unfolding row
row_is n f k l small = mapped_at n (λ r. vec_of (f r)) (λ (v : Vec ℕ Global). v.items) k [] l ∙ items_are (f k) small

pub rows_are : (n : ℕ) (f : ℕ → List (Vec ℕ Global)) (k : ℕ) → k < n → length (f k) < 2 ^ 63 → rows (table n (λ a. vec_of (f a))) k ≡ f k
unfolding rows
rows_are n f k l small = mapped_at n (λ a. vec_of (f a)) (λ (v : Vec (Vec ℕ Global) Global). v.items) k [] l ∙ items_are (f k) small
