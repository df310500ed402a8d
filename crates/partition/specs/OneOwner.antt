-- That owners by rule are one.
use Rattle.std.specs.Prelude.{◌≡◌, ℕ, ℤ, ◌<◌, Bool, List, length}
use Rattle.partition.specs.Grow.{IsGrown}
use Rattle.partition.specs.Bisect.{IsBisected}

-- by growth each element has one owner
abbrev pub IsOneGrowth : Type 0
IsOneGrowth =
    (n ranks : ℕ) (near : ℕ → ℕ → Bool) (a b : ℕ → ℕ)
    → 0 < ranks
    → IsGrown n ranks near a
    → IsGrown n ranks near b
    → (x : ℕ) → x < n
    → a x ≡ b x

-- by cuts a set has one list of owners
abbrev pub IsOneBisection : Type 0
IsOneBisection =
    (n ranks : ℕ) (values : List ℤ) (dim : ℕ) (a b : List ℕ)
    → length a ≡ n
    → length b ≡ n
    → IsBisected n ranks values dim a
    → IsBisected n ranks values dim b
    → a ≡ b
