-- Orders of taking (Cuthill and McKee 1969): at each place the least element by the place of its earliest neighbour and its key.
use Rattle.std.specs.Prelude.{◌≡◌, ℕ, ◌<◌, ◌≤◌, ◌⊎◌, ◌+◌, Bool, true, false, not, List, length, take, slice_index, slice_index_or, Contains, count_by}
use Rattle.std.specs.List.{position_or_len}

-- the place of y's earliest neighbour among those taken; where it has none, how many are taken
unfoldable pub earliest : (ℕ → ℕ → Bool) → List ℕ → ℕ → ℕ
earliest near taken y = position_or_len (λ x. near x y) taken

-- z isn't taken, and of those that aren't it is the one with least (place of its earliest neighbour, key)
pub record IsNext (n : ℕ) (near : ℕ → ℕ → Bool) (key : ℕ → ℕ) (taken : List ℕ) (z : ℕ) : Type 0 where
  pub within : z < n
  pub new : Contains taken z → ⊥
  pub least : (y : ℕ) → y < n → (Contains taken y → ⊥) → (earliest near taken z < earliest near taken y)
      ⊎ ((earliest near taken z ≡ earliest near taken y) × (key z ≤ key y))

-- at each place stands the next after those at earlier places
abbrev pub IsTaken : ℕ → (ℕ → ℕ → Bool) → (ℕ → ℕ) → List ℕ → Type 0
IsTaken n near key order = (k : ℕ) → k < length order → IsNext n near key (take k order) (slice_index order k)

-- the keys don't fall
abbrev pub Rises : (ℕ → ℕ) → List ℕ → Type 0
Rises key xs = (i j : ℕ) → i ≤ j → j < length xs → key (slice_index xs i) ≤ key (slice_index xs j)

-- marks: taken exactly where marked, and all neighbours of the first h are marked
pub record IsWalk (n : ℕ) (near : ℕ → ℕ → Bool) (order : List ℕ) (seen : List Bool) (h : ℕ) : Type 0 where
  pub size : length seen ≡ n
  pub count : length order + count_by (λ b. not b) seen ≡ n
  pub within : (k : ℕ) → k < length order → slice_index order k < n
  pub marked : (k : ℕ) → k < length order → slice_index_or seen (slice_index order k) false ≡ true
  pub taken : (y : ℕ) → y < n → slice_index_or seen y false ≡ true → Contains order y
  pub closed : (j y : ℕ) → j < h → j < length order → y < n → near (slice_index order j) y ≡ true → slice_index_or seen y false ≡ true
