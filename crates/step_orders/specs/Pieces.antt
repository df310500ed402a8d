-- Elements in pieces: a piece is of at most g elements, each of which goes with its first, and no piece could go on.
use Rattle.std.specs.Prelude.{◌≡◌, ◌≤◌, ◌-◌, ◌/◌, ◌==◌, ◌&&◌, nat_lt, ℕ, Bool, true, cond, List, [], ◌∷◌, ◌++◌, get_or, length, take, drop}
use Rattle.step_orders.specs.Runs.{cut, start_of, AreEnds}
use Rattle.step_orders.specs.ElementRuns.{unless_empty}

-- blocks of so many places, the colours of the places, two places: they are of one block and colour
abbrev pub is_alike : ℕ → List ℕ → ℕ → ℕ → Bool
is_alike size colours x y = (x / size == y / size) && (get_or colours x 0 == get_or colours y 0)

module _ (goes_with : ℕ → ℕ → Bool) (g : ℕ) where
  -- the element may go on the piece
  abbrev pub goes_on : List ℕ → ℕ → Bool
  goes_on [] x = true
  goes_on (y ∷ ys) x = nat_lt (length (y ∷ ys)) g && goes_with y x

  -- the pieces from the one on that is begun
  abbrev pub pieces_from : List ℕ → List ℕ → List (List ℕ)
  pieces_from piece [] = unless_empty piece
  pieces_from piece (x ∷ xs) = cond (goes_on piece x) (pieces_from (piece ++ (x ∷ [])) xs) (piece ∷ pieces_from (x ∷ []) xs)

  -- up to `at` the elements are cut at these places, and the piece that starts at the last of them is begun
  pub record IsCut (xs es : List ℕ) (start at : ℕ) : Type 0 where
    pub begun : start ≡ start_of 0 es (length es)
    pub order : start ≤ at
    pub ends : AreEnds 0 xs es
    pub left : cut 0 xs es ++ pieces_from (take (at - start) (drop start xs)) (drop at xs) ≡ pieces_from [] xs
