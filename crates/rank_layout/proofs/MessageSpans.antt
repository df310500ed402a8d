-- The spans of messages, one dat after another.
use Rattle.std.proofs.Common.{◌≡◌, ◌<◌, ◌≤◌, ◌+◌, ℕ, List, ◌++◌, flat_map, length, take, get_or, ap, ◌∙◌, arith, length-append}
use Rattle.rank_layout.proofs.FlatMaps.{flat_more, flat_part}

module _ {X A : Type 0} (f : X → List A) where
  -- there is room for the next ones
  pub room_more : (old : List A) (xs : List X) (i : ℕ) (d : X) (room : ℕ) (now : List A) → i < length xs
      → now ≡ old ++ flat_map f (take i xs) → length old + length (flat_map f xs) ≤ room
      → length now + length (f (get_or xs i d)) ≤ room
  room_more old xs i d room now lt is fits =
      let part = flat_part f xs (i + 1) in
      let next : length (flat_map f (take (i + 1) xs)) ≡ length (flat_map f (take i xs)) + length (f (get_or xs i d)) =
      ap length (flat_more f xs i d lt) ∙ length-append (flat_map f (take i xs)) (f (get_or xs i d)) in
      let all : length now ≡ length old + length (flat_map f (take i xs)) = ap length is ∙ length-append old (flat_map f (take i xs)) in
      omega (arith, part, next, all, fits)
